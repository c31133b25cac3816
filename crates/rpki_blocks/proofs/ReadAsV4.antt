-- What is written as IPv4 and read as IPv4 are whole IPv4 addresses.
use Rattle.std.specs.Int.Digits.{number_from_digits}
use Rattle.std.specs.List.{concat, list_all}
use Rattle.std.specs.Prelude.{◌==◌, bytes_eq, flat_map}
use Rattle.std.proofs.Common.{◌≡◌, ◌⊎◌, ℕ, ◌+◌, ◌-◌, ◌*◌, ◌%◌, ◌^◌, ◌<◌, ◌≤◌, ltb, true, List, [], ◌∷◌, ◌++◌, length}
use Rattle.std.proofs.Common.{get_or, Some, refl, sym, ap, subst, ◌∙◌, arith, inl, inr}
use Rattle.std.proofs.lemmas.Bool.{and_from, cases_Bool, eq-eqb, le-ltb, ltb-false}
use Rattle.std.proofs.lemmas.List.{append-nil}
use Rattle.std.proofs.lemmas.Nat.{pow_pos}
use Rattle.std.proofs.lemmas.Slice.Eq.{bytes_eq-Decides}
use Rattle.std.proofs.lemmas.Option.{same_Some}
use Rattle.std.proofs.Math.Nat.{mul-mod_left}
use Rattle.rpki_der.specs.Encoding.{Begins}
use Rattle.rpki_der.specs.Formats.{SEQUENCE_OF}
use Rattle.rpki_der.specs.Sequences.{AreEncodings}
use Rattle.rpki_der.specs.Tags.{OCTET_STRING, SEQUENCE}
use Rattle.rpki_der.specs.Values.{IsEnc, IsValue, enc, sequence, sequence_of_some}
use Rattle.rpki_der.proofs.FormatLaws.{one_meaning}
use Rattle.rpki_der.proofs.Formats.{of_enc, same_enc}
use Rattle.rpki_der.proofs.Octets.{if_some, some, some_is, unless_some}
use Rattle.rpki_der.proofs.ValueWritten.{Short, append_short, content_short, made}
use Rattle.rpki_der.proofs.Values.{one_value}
use Rattle.rpki_blocks.specs.AddressBits.{ip_block}
use Rattle.rpki_blocks.specs.Addresses.{lower, upper, ip_address_format, ip_address_range_format}
use Rattle.rpki_blocks.specs.Addresses.{ip_address_or_range_format, afi, family_of, ip_address_family_format}
use Rattle.rpki_blocks.specs.Addresses.{ip_addr_blocks_format, Families, IsIPAddrBlocks, Ip, family, ip}
use Rattle.rpki_blocks.specs.Prefixes.{is_v4_block, AreV4}
use Rattle.rpki_blocks.specs.Resources.{Resources, missing, inherit, blocks, IsResources}
use Rattle.rpki_blocks.specs.Sets.{Block}
use Rattle.rpki_blocks.specs.Systems.{written_as}
use Rattle.rpki_blocks.specs.Unions.{resource_choice}
use Rattle.rpki_blocks.specs.declared.ip_resources.Family.{Family}
use Rattle.rpki_blocks.specs.declared.ip_resources.Family.TheVariants.{V4, V6}
use Rattle.rpki_blocks.proofs.AddressBits.{power_divides, divides_less, divides_sum}
use Rattle.rpki_blocks.proofs.AddressReads.{ip_address_or_range_alone, some_octets}
use Rattle.rpki_blocks.proofs.AddressWritten.{block_text, v6_fits}
use Rattle.rpki_blocks.proofs.ResourcesWritten.{afi_written, all_fit, as_written, family_text, number}
use Rattle.rpki_blocks.proofs.UnionReads.{elements_lawful}

-- ---- one element

-- from a multiple of 2^96 to before another one
abbrev IsWhole : Block → Type 0
IsWhole r = (r.min % 2 ^ 96 ≡ 0) × (r.max % 2 ^ 96 ≡ 2 ^ 96 - 1)

whole_v4 : (r : Block) → IsWhole r → is_v4_block r ≡ true
whole_v4 r h = and_from (r.min % 2 ^ 96 == 0) (r.max % 2 ^ 96 == 2 ^ 96 - 1) (eq-eqb _ _ h.0) (eq-eqb _ _ h.1)

-- the addresses that begin with at most 32 bits are whole IPv4 addresses
address_whole : (r : Block) (b : List ℕ) → (ip_address_format V4).encodes r b → IsWhole r
unfolding ip_address_format
address_whole r b ((unused, octets), bits, is) =
    let g = unless_some (ltb 32 (8 * length octets)) (record { min = lower octets; max = upper unused octets }) r is in
    let few : 8 * length octets ≤ 32 = ltb-false _ _ g.0 in
    let zeros : ℕ = 128 - 8 * length octets in
    let low : lower octets % 2 ^ 96 ≡ 0 = divides_less (lower octets) zeros 96 (omega (arith, few))
    (mul-mod_left (number_from_digits 256 octets) (2 ^ zeros)) in
    let size : 2 ^ (zeros + unused) % 2 ^ 96 ≡ 0 = power_divides 96 (zeros + unused) (omega (arith, few)) in
    let next : upper unused octets + 1 ≡ lower octets + 2 ^ (zeros + unused) = omega (arith, pow_pos (zeros + unused)) in
    let sum : (upper unused octets + 1) % 2 ^ 96 ≡ 0 = ap (λ (n : ℕ). n % 2 ^ 96) next ∙
    divides_sum (lower octets) (2 ^ (zeros + unused)) (2 ^ 96) low size in
    let high : upper unused octets % 2 ^ 96 ≡ 2 ^ 96 - 1 = last (upper unused octets) sum in
    subst IsWhole g.1 (low, high)
  where
    last : (n : ℕ) → (n + 1) % 2 ^ 96 ≡ 0 → n % 2 ^ 96 ≡ 2 ^ 96 - 1
    last n h = omega arith

range_whole : (r : Block) (b : List ℕ) → (ip_address_range_format V4).encodes r b → IsWhole r
unfolding ip_address_range_format
range_whole r b (content, ((low, high), (from, to, low_is, high_is, parts), ends), enc) =
    let g = unless_some (ltb high.max low.min) (record { min = low.min; max = high.max }) r ends in
    subst IsWhole g.1 ((address_whole low from low_is).0, (address_whole high to high_is).1)

element_whole : (r : Block) (b : List ℕ) → (ip_address_or_range_format V4).encodes r b → IsWhole r
unfolding ip_address_or_range_format
element_whole r b h = elim h [ inl s ↦ range_whole r b s | inr s ↦ address_whole r b s ]

address_wider : (r : Block) (b : List ℕ) → (ip_address_format V4).encodes r b → (ip_address_format V6).encodes r b
unfolding ip_address_format
address_wider r b ((unused, octets), bits, is) =
    let g = unless_some (ltb 32 (8 * length octets)) (record { min = lower octets; max = upper unused octets }) r is in
    let few : 8 * length octets ≤ 32 = ltb-false _ _ g.0 in
    ((unused, octets), bits, rw (le-ltb 128 (8 * length octets) (omega (arith, few))) (ap some g.1))

range_wider : (r : Block) (b : List ℕ) → (ip_address_range_format V4).encodes r b → (ip_address_range_format V6).encodes r b
unfolding ip_address_range_format
range_wider r b (content, ((low, high), (from, to, low_is, high_is, parts), ends), enc) = (
  content,
  ((low, high), (from, to, address_wider low from low_is, address_wider high to high_is, parts), ends),
  enc,
)

element_wider : (r : Block) (b : List ℕ) → (ip_address_or_range_format V4).encodes r b → (ip_address_or_range_format V6).encodes r b
unfolding ip_address_or_range_format
element_wider r b h = elim h [ inl s ↦ inl (range_wider r b s) | inr s ↦ inr (address_wider r b s) ]

-- ---- a sequence of elements

sequence_v4 : (rs : List Block) (b : List ℕ) → AreEncodings (ip_address_or_range_format V4).encodes rs b → list_all is_v4_block rs ≡ true
sequence_v4 [] b h = refl
sequence_v4 (r ∷ rs) b h = and_from (is_v4_block r) (list_all is_v4_block rs) (whole_v4 r (element_whole r h.0 h.2))
    (sequence_v4 rs h.1 h.3)

sequence_wider : (rs : List Block) (b : List ℕ) → AreEncodings (ip_address_or_range_format V4).encodes rs b →
    AreEncodings (ip_address_or_range_format V6).encodes rs b
sequence_wider [] b h = h
sequence_wider (r ∷ rs) b h = (h.0, h.1, element_wider r h.0 h.2, sequence_wider rs h.1 h.3, h.4)

-- ---- a choice

abbrev choice_text : List Block → List ℕ
choice_text bs = enc SEQUENCE (flat_map ip_block bs)

choice_v4 : (bs : List Block) (r : Resources) → IsResources (2 ^ 128 - 1) (blocks bs) →
    length (choice_text bs) < 2 ^ 32 →
    (resource_choice (ip_address_or_range_format V4)).encodes r (choice_text bs) → AreV4 (blocks bs)
unfolding resource_choice enc
choice_v4 bs r kind short h =
    let element = ip_address_or_range_format V6 in
    let law = elements_lawful element (ip_address_or_range_alone V6) (some_octets V6) in
    let fits = all_fit element (2 ^ 128 - 1) v6_fits bs kind.1.chain kind.1.small in
    let is : flat_map element.written bs ≡ flat_map ip_block bs = λ i. flat_map (λ b. block_text V6 b i) bs in
    let wrote : (SEQUENCE_OF element).encodes bs (choice_text bs) =
    subst (λ (c : List ℕ). length (enc SEQUENCE c) < 2 ^ 32 → (SEQUENCE_OF element).encodes bs (enc SEQUENCE c))
    is (law.made bs fits) short in
    elim h [
      | inl s ↦
          let same = one_meaning (SEQUENCE_OF element) refl law s.elements bs (choice_text bs) (choice_text bs) [] []
          (s.encoded.0, sequence_wider s.elements s.encoded.0 s.encoded.1, s.encoded.2) wrote refl in
          subst (λ (es : List Block). list_all is_v4_block es ≡ true) same.0 (sequence_v4 s.elements s.encoded.0 s.encoded.1)
      | inr s ↦ absurd cc (s.1)
    ]

-- ---- the families

abbrev named_v4 : List ℕ
named_v4 = OCTET_STRING ∷ 2 ∷ 0 ∷ 1 ∷ []

family_value : (x : Family × Resources) (b : List ℕ) → ip_address_family_format.encodes x b → IsValue b
unfolding ip_address_family_format
family_value x b (content, is, enc) = of_enc enc

named : (id : List ℕ) (f : Family) → family_of id ≡ Some f → id ≡ afi f
named id f e =
    elim (cases_Bool (bytes_eq id (afi V4))) [
      | inl y ↦ let same : V4 ≡ f = some_is V4 f (rw y at e) in (bytes_eq-Decides id (afi V4)).0 y ∙ ap afi same
      | inr n ↦
          let g = if_some (bytes_eq id (afi V6)) V6 f (rw n at e) in
          (bytes_eq-Decides id (afi V6)).0 g.0 ∙ ap afi g.1
    ]

-- what is written of IPv4 addresses with this choice is read as no other family, and with no other
-- choice
family_choice : (x : Family × Resources) (c : List ℕ) → Short (enc SEQUENCE (named_v4 ++ c)) →
    ip_address_family_format.encodes x (enc SEQUENCE (named_v4 ++ c)) →
    (r : Resources) × (resource_choice (ip_address_or_range_format V4)).encodes r c
unfolding ip_address_family_format
family_choice x c short (content, (which, a, choice, (id, id_is, name), (r, r_is, same), parts), encoded) =
    by_family which r choice
    (sym (ap (λ (t : List ℕ). t ++ choice)
    (id_is.is ∙ ap (enc OCTET_STRING) (named id which name) ∙ afi_written which)) ∙ sym parts ∙
    (same_enc encoded (made SEQUENCE _ (omega arith) short)).1) r_is
  where
    by_family : (f : Family) (r : Resources) (choice : List ℕ) → (OCTET_STRING ∷ 2 ∷ 0 ∷ number f ∷ []) ++ choice ≡
        named_v4 ++ c → (resource_choice (ip_address_or_range_format f)).encodes r choice →
        (r : Resources) × (resource_choice (ip_address_or_range_format V4)).encodes r c
    by_family V4 r choice e s = let same : choice ≡ c = cc in
        (r, subst (λ (t : List ℕ). (resource_choice (ip_address_or_range_format V4)).encodes r t) same s)
    by_family V6 r choice e s = absurd (omega (arith, ap (λ (l : List ℕ). get_or l 3 0) e))

blocks_v4 : (bs : List Block) (six : Resources) (f : Families) (c rest : List ℕ) →
    IsResources (2 ^ 128 - 1) (blocks bs) → ip (record { v4 = blocks bs; v6 = six }) ≡ Some c → Short c →
    Begins IsIPAddrBlocks c f rest → AreV4 (blocks bs)
unfolding ip_addr_blocks_format
blocks_v4 bs six f c rest kind e short h =
    let first = enc SEQUENCE (named_v4 ++ choice_text bs) in
    let is : sequence (first ∷ family 2 six) ≡ c = same_Some _ _ e in
    let short' : Short (sequence (first ∷ family 2 six)) = subst Short (sym is) short in
    let mine : IsEnc SEQUENCE (concat (first ∷ family 2 six)) c =
    subst (λ (b : List ℕ). IsEnc SEQUENCE (concat (first ∷ family 2 six)) b) is
    (made SEQUENCE _ (omega arith) short') in
    let all = one_value c h.text [] rest (of_enc mine) (of_enc h.encoded.1.2) (append-nil c ∙ h.parts) in
    let content = same_enc (subst (λ (b : List ℕ). IsEnc SEQUENCE h.encoded.1.0 b) (sym all.0) h.encoded.1.2) mine in
    let first_short : Short first = (append_short first (concat (family 2 six)) (content_short SEQUENCE _ short')).0 in
    let choice_short = (append_short named_v4 (choice_text bs) (content_short SEQUENCE _ first_short)).1 in
    let families = h.encoded.1.1 in
    let same = one_value families.0 first families.1 (concat (family 2 six))
    (family_value h.encoded.0.0 families.0 families.2) (of_enc (made SEQUENCE _ (omega arith) first_short))
    (sym families.4 ∙ content.1) in
    let read = family_choice h.encoded.0.0 (choice_text bs) first_short
    (subst (λ (b : List ℕ). ip_address_family_format.encodes h.encoded.0.0 b) same.0 families.2) in
    choice_v4 bs read.0 kind choice_short.0 read.1

-- addresses of which what is written is read are whole IPv4 addresses where they are written as
-- IPv4
pub read_as_v4 : (i : Ip) (f : Families) (c rest : List ℕ) → IsResources (2 ^ 128 - 1) i.v4 → ip i ≡ Some c →
    Short c → Begins IsIPAddrBlocks c f rest → AreV4 i.v4
read_as_v4 i f c rest kind e short h = by_kind i.v4 i.v6 kind e
  where
    by_kind : (four six : Resources) → IsResources (2 ^ 128 - 1) four → ip (record { v4 = four; v6 = six }) ≡ Some c → AreV4 four
    by_kind missing six kind e = tt
    by_kind inherit six kind e = tt
    by_kind (blocks bs) six kind e = blocks_v4 bs six f c rest kind e short h

-- addresses of which something is written are there
pub some_ip : (i : Ip) (c : List ℕ) → ip i ≡ Some c → (i.v4 ≡ missing → ⊥) ⊎ (i.v6 ≡ missing → ⊥)
some_ip i c e =
    elim (family_text V4 i.v4) [
      | inl a ↦ elim (family_text V6 i.v6) [
        | inl b ↦ let none : sequence_of_some [] ≡ Some c = rw (a.2, b.2) at e in
            absurd cc
        | inr b ↦ inr b.0
      ]
      | inr a ↦ inl a.0
    ]

-- AS numbers of which something is written are there
pub some_as : (r : Resources) (c : List ℕ) → written_as r ≡ Some c → r ≡ missing → ⊥
some_as r c e = (as_written r c e).0
