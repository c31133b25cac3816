-- The keys of strings, gathered from one certificate after the other.
use Rattle.std.specs.Prelude.{Contains, Option, Some, None}
use Rattle.std.proofs.Common.{◌≡◌, ◌+◌, ◌<◌, ℕ, zero, suc, List, [], ◌∷◌, ◌++◌, append_assoc, get_or, length}
use Rattle.std.proofs.Common.{take, sym, ap, ◌∙◌, inl, inr, arith}
use Rattle.std.proofs.lemmas.List.{take_more}
use Rattle.std.proofs.lemmas.List.Elements.{Contains-append_cases, Contains-append_left, Contains-append_right}
use Rattle.rpki_der.specs.Values.{IsUnambiguous}
use Rattle.rpki_der.proofs.Formats.{one_meant}
use Rattle.rpki_ext.specs.Kinds.{Means}
use Rattle.rpki_cert.specs.Certificates.{CertFields, IsCertificate}
use Rattle.rpki_c.specs.PathKeys.{AreKeysOf, key_named, keys_in}
use Rattle.rpki_c.specs.Verdicts.{IsKeyIn}
use Rattle.rpki_c.proofs.OneMore.{any_front, any_last, any_split}

-- none of none
pub no_keys : AreKeysOf [] []
no_keys key = ((λ (k, low, is). absurd (omega (arith, low))), (λ (k, s, low, is, p). absurd (omega (arith, low))))

named_there : (o : Option (List ℕ)) (key : List ℕ) → o ≡ Some key → Contains (key_named o) key
named_there None key is = absurd (cc is)
named_there (Some k) key is = let same : k ≡ key = cc is in (0, omega arith, same)

named_back : (o : Option (List ℕ)) (key : List ℕ) → Contains (key_named o) key → o ≡ Some key
named_back None key (k, low, is) = absurd (omega (arith, low))
named_back (Some j) key (zero, low, is) = ap (λ (l : List ℕ). Some l) is
named_back (Some j) key (suc k, low, is) = absurd (omega (arith, low))

module _ (law : IsUnambiguous IsCertificate) (c : CertFields) (octets : List ℕ)
    (begins : Means IsCertificate c octets) where
  keys_there : (key : List ℕ) → IsKeyIn key octets → Contains (keys_in c) key
  keys_there key (d, other, is) =
      let same = one_meant IsCertificate law d c octets other begins in
      elim is [
        | inl own ↦ (
          0,
          omega arith,
          sym (ap (λ (f : CertFields). f.fields.extensions.subject_key_identifier) same) ∙ own,
        )
        | inr named ↦ Contains-append_right (c.fields.extensions.subject_key_identifier ∷ [])
            (key_named c.fields.extensions.authority_key_identifier) key
            (named_there c.fields.extensions.authority_key_identifier key
            (sym (ap (λ (f : CertFields). f.fields.extensions.authority_key_identifier) same) ∙ named))
      ]

  keys_back : (key : List ℕ) → Contains (keys_in c) key → IsKeyIn key octets
  keys_back key (zero, low, is) = (c, begins, inl is)
  keys_back key (suc k, low, is) =
      (c, begins, inr (named_back c.fields.extensions.authority_key_identifier key (k, omega (arith, low), is)))

  -- those of one certificate more
  pub keys_more : (strings keys : List (List ℕ)) → AreKeysOf strings keys →
      AreKeysOf (strings ++ octets ∷ []) (keys ++ keys_in c)
  keys_more strings keys are key = (
    (λ there. elim (Contains-append_cases keys (keys_in c) key there) [
      | inl before ↦ any_front (IsKeyIn key) strings octets ((are key).0 before)
      | inr after ↦ any_last (IsKeyIn key) strings octets (keys_back key after)
    ]),
    (λ some. elim (any_split (IsKeyIn key) strings octets some) [
      | inl before ↦ Contains-append_left keys (keys_in c) key ((are key).1 before)
      | inr after ↦ Contains-append_right keys (keys_in c) key (keys_there key after)
    ]),
  )

-- a string that begins with no certificate has none
pub keys_same : (octets : List ℕ) → ((c : CertFields) → Means IsCertificate c octets → ⊥) →
    (strings keys : List (List ℕ)) → AreKeysOf strings keys → AreKeysOf (strings ++ octets ∷ []) keys
keys_same octets none strings keys are key = (
  (λ there. any_front (IsKeyIn key) strings octets ((are key).0 there)),
  (λ some. elim (any_split (IsKeyIn key) strings octets some) [
    | inl before ↦ (are key).1 before
    | inr after ↦ absurd (none after.0 after.1)
  ]),
)

-- one string more of others
pub next_strings : (strings others : List (List ℕ)) (i : ℕ) (octets : List ℕ) → i < length others →
    octets ≡ get_or others i [] → (strings ++ take i others) ++ octets ∷ [] ≡ strings ++ take (i + 1) others
next_strings strings others i octets within is =
    append_assoc strings (take i others) (octets ∷ [])
    ∙ ap (λ (ss : List (List ℕ)). strings ++ ss)
    (ap (λ (o : List ℕ). take i others ++ o ∷ []) is ∙ sym (take_more others i [] within))
