-- How long what is written is, and an error that says that it is too long.
use Rattle.std.proofs.Common.{◌≡◌, ◌≢◌, ℕ, ◌+◌, ◌<◌, ◌≤◌, List, [], ◌∷◌, ◌++◌, length, Result, Ok, Err, arith, refl}
use Rattle.std.proofs.Common.{sym, ap, ◌∙◌, append_assoc}
use Rattle.std.specs.List.{concat}
use Rattle.std.specs.Prelude.{OnOk}
use Rattle.std.proofs.lemmas.List.{length-append}
use Rattle.std.proofs.lemmas.List.Folds.{concat-append}
use Rattle.rpki_der.specs.Values.{enc, sequence}
use Rattle.rpki_blocks.specs.Resources.{Resources, missing, inherit, blocks}
use Rattle.rpki_blocks.specs.Addresses.{family}
use Rattle.rpki_blocks.specs.AddressBits.{ip_block}
use Rattle.rpki_blocks.specs.Unions.{text_of, written_choice}
use Rattle.rpki_der.specs.Tags.{OCTET_STRING, SEQUENCE}
use Rattle.rpki_der.proofs.Lengths.{length_short}
use Rattle.rpki_der.proofs.ValueWritten.{enc_longer}
pub use Rattle.rpki_der.proofs.TooLong.{passed_long, still_long}

-- ---- contents are longer than their parts

-- a family that is there
pub family_is : (n : ℕ) (r : Resources) → r ≢ missing →
    concat (family n r) ≡ enc SEQUENCE ((OCTET_STRING ∷ 2 ∷ 0 ∷ n ∷ []) ++ text_of (written_choice ip_block r)) ++
    []
family_is n missing some = absurd (some refl)
family_is n inherit some = refl
family_is n (blocks bs) some = refl

-- what stands inside a family, and its choice
pub family_longer : (n : ℕ) (r : Resources) → r ≢ missing → 4 + length (text_of (written_choice ip_block r)) ≤ length (concat (family n r))
family_longer n r some =
    let c = text_of (written_choice ip_block r) in
    omega (
      arith,
      ap length (family_is n r some),
      enc_longer SEQUENCE ((OCTET_STRING ∷ 2 ∷ 0 ∷ n ∷ []) ++ text_of (written_choice ip_block r)),
      length-append (OCTET_STRING ∷ 2 ∷ 0 ∷ n ∷ []) (text_of (written_choice ip_block r)),
      length-append (enc SEQUENCE ((OCTET_STRING ∷ 2 ∷ 0 ∷ n ∷ []) ++ text_of (written_choice ip_block r))) [],
    )

-- IPAddrBlocks aren't shorter than the two families inside
pub families_longer : (v4 v6 : Resources) →
    length (concat (family 1 v4)) + length (concat (family 2 v6)) ≤ length (sequence (family 1 v4 ++ family 2 v6))
families_longer v4 v6 =
    omega (
      arith,
      enc_longer SEQUENCE (concat (family 1 v4 ++ family 2 v6)),
      ap length (concat-append (family 1 v4) (family 2 v6)),
      length-append (concat (family 1 v4)) (concat (family 2 v6)),
    )

-- ---- values of few octets

-- a value whose content has fewer than 128 octets
pub short_value : (t : ℕ) (c : List ℕ) → length c < 128 → enc t c ≡ t ∷ length c ∷ c
unfolding enc
short_value t c h = rw (length_short (length c) h) refl

-- two pieces behind an identifier octet and their length are a value
value_of_two : (t n : ℕ) (old one two new a b : List ℕ) → one ≡ old ++ t ∷ n ∷ [] → two ≡ one ++ a →
    n ≡ length a + length b → n < 128 → new ≡ two ++ b → new ≡ old ++ enc t (a ++ b)
value_of_two t n old one two new a b first second is small third =
    let long : length (a ++ b) ≡ n = omega (arith, length-append a b) in
    let whole : enc t (a ++ b) ≡ t ∷ n ∷ (a ++ b) = short_value t (a ++ b) (omega arith) ∙ ap (λ (k : ℕ). t ∷ k ∷ (a ++ b)) long in
    let together : ((old ++ t ∷ n ∷ []) ++ a) ++ b ≡ old ++ (t ∷ n ∷ (a ++ b)) = simp append_assoc in
    third ∙ ap (λ (x : List ℕ). x ++ b) (second ∙ ap (λ (x : List ℕ). x ++ a) first) ∙ together ∙ ap (λ (x : List ℕ). old ++ x) (sym whole)

-- so they are a value once the second was appended
pub put_two : {T E : Type 0} (r : Result T E) (t n : ℕ) (old one two new a b : List ℕ) → one ≡ old ++ t ∷ n ∷ [] →
    two ≡ one ++ a → n ≡ length a + length b → n < 128 → OnOk r (new ≡ two ++ b) →
    OnOk r (new ≡ old ++ enc t (a ++ b))
put_two (Ok x) t n old one two new a b first second is small third = value_of_two t n old one two new a b first second is small third
put_two (Err e) t n old one two new a b first second is small third = tt
