-- What is written of resources encodes them.
use Rattle.std.specs.Prelude.{◌==◌, flat_map, IfSome}
use Rattle.std.specs.List.{AllByRecursion, list_all}
use Rattle.std.proofs.Common.{◌≡◌, ℕ, ◌^◌, ◌-◌, ◌<◌, ◌≤◌, List, [], ◌∷◌, length, true, sym, subst, ap, ◌∙◌, arith}
use Rattle.std.proofs.Common.{inl, inr, Option, Some, refl, None, ◌⊎◌, ◌++◌}
use Rattle.std.proofs.lemmas.Bool.{eqb-true, and_parts, le-leb, not-false}
use Rattle.std.proofs.lemmas.List.{append-nil}
use Rattle.std.proofs.lemmas.Option.{same_Some}
use Rattle.rpki_der.specs.Formats.{Format}
use Rattle.rpki_der.specs.Primitives.{null}
use Rattle.rpki_der.specs.Tags.{SEQUENCE, OCTET_STRING}
use Rattle.rpki_der.specs.Values.{AreOctets, enc, length_octets, sequence_of_some}
use Rattle.rpki_der.proofs.FormatAnswers.{IsAlone}
use Rattle.rpki_der.proofs.WrittenOctets.{IfShort, ok_concat, ok_enc}
use Rattle.rpki_blocks.specs.Sets.{Block, IsChain, AreUpTo, IsSet}
use Rattle.rpki_blocks.specs.Prefixes.{is_v4_block, AreV4}
use Rattle.rpki_blocks.specs.Resources.{Resources, missing, inherit, blocks, IsResources}
use Rattle.rpki_blocks.specs.Unions.{resource_choice}
use Rattle.rpki_blocks.specs.Addresses.{Families, Ip, or_missing, afi, family_of, family, ip}
use Rattle.rpki_blocks.specs.Addresses.{ip_address_or_range_format, ip_address_family_format, ip_addr_blocks_format}
use Rattle.rpki_blocks.specs.Systems.{as_range_format, as_id_or_range_format, as_identifiers_format, written_as}
use Rattle.rpki_blocks.specs.declared.ip_resources.Family.{Family}
use Rattle.rpki_blocks.specs.declared.ip_resources.Family.TheVariants.{V4, V6}
use Rattle.rpki_blocks.proofs.AddressReads.{ip_alone}
use Rattle.rpki_blocks.proofs.AddressWritten.{block_text, v4_fits, v6_fits}
use Rattle.rpki_blocks.proofs.SystemReads.{as_alone}

-- what a format writes of a value that fits encodes it, and consists of octets
is_made : {V : Type 0} (f : Format V) → IsAlone f → (v : V) (c : List ℕ) → f.written v ≡ c → f.fits v →
    length c < 2 ^ 32 → f.encodes v c × AreOctets c
is_made f alone v c is fits = subst (λ (t : List ℕ). length t < 2 ^ 32 → f.encodes v t × AreOctets t) is
    (λ short. (alone.law.made v fits short, alone.law.octets v fits short))

-- ---- a choice

-- blocks of a set can be written where each up to the greatest number can
pub all_fit : (element : Format Block) (greatest : ℕ) →
    ((b : Block) → b.min ≤ b.max → b.max ≤ greatest → element.fits b) → (bs : List Block) → IsChain bs →
    AreUpTo greatest bs → AllByRecursion element.fits bs
all_fit element greatest each [] chain small = tt
all_fit element greatest each (b ∷ []) chain small = (each b chain small.0, tt)
all_fit element greatest each (b ∷ c ∷ bs) chain small = (each b chain.0 small.0, all_fit element greatest each (c ∷ bs) chain.2 small.1)

all_v4 : (bs : List Block) → IsChain bs → AreUpTo (2 ^ 128 - 1) bs → list_all is_v4_block bs ≡ true →
    AllByRecursion (ip_address_or_range_format V4).fits bs
all_v4 [] chain small v4 = tt
all_v4 (b ∷ []) chain small v4 = (v4_fits b (and_parts _ _ v4).0 chain (omega (arith, small.0)), tt)
all_v4 (b ∷ c ∷ bs) chain small v4 = let p = and_parts _ _ v4 in
    (v4_fits b p.0 chain.0 (omega (arith, small.0)), all_v4 (c ∷ bs) chain.2 small.1 p.1)

-- a choice that is there can be written where its blocks can
choice_fits : (element : Format Block) (greatest : ℕ) (r : Resources) → IsResources greatest r → (r ≡ missing → ⊥) →
    ((bs : List Block) → r ≡ blocks bs → IsSet greatest bs → AllByRecursion element.fits bs) →
    (resource_choice element).fits r
unfolding resource_choice
choice_fits element greatest missing f there all = absurd (there refl)
choice_fits element greatest inherit f there all = (λ e. absurd cc, λ e. (refl, tt))
choice_fits element greatest (blocks []) f there all = absurd (f.0 refl)
choice_fits element greatest (blocks (b ∷ bs)) f there all = (λ e. (refl, f.1.chain, all (b ∷ bs) refl f.1), λ e. absurd cc)

-- ---- AS numbers

as_block_fits : (b : Block) → b.min ≤ b.max → b.max ≤ 2 ^ 32 - 1 → as_id_or_range_format.fits b
unfolding as_id_or_range_format as_range_format
as_block_fits b order small = (
  λ range. (le-leb b.min b.max order, (omega arith, omega arith)),
  λ one. let same : b.min ≡ b.max =
      eqb-true _ _ (not-false (b.min == b.max) one) in
      (λ i. Some (record { min = b.min; max = same i }), omega arith),
)

-- what is written of AS numbers is what their format writes, and they are there
pub as_written : (r : Resources) (c : List ℕ) → written_as r ≡ Some c → (r ≡ missing → ⊥) × (as_identifiers_format.written r ≡ c)
unfolding as_identifiers_format resource_choice
as_written missing c e = absurd cc
as_written inherit c e = (λ is. absurd cc, same_Some _ _ e)
as_written (blocks bs) c e = (λ is. absurd cc, same_Some _ _ e)

-- what is written of AS numbers encodes them, and consists of octets
pub as_resources_made : (r : Resources) (c : List ℕ) → written_as r ≡ Some c → IsResources (2 ^ 32 - 1) r →
    length c < 2 ^ 32 → as_identifiers_format.encodes r c × AreOctets c
unfolding as_identifiers_format
as_resources_made r c e f short =
    let w = as_written r c e in
    is_made as_identifiers_format as_alone r c w.1
    (choice_fits as_id_or_range_format (2 ^ 32 - 1) r f w.0
    (λ bs is set. all_fit as_id_or_range_format (2 ^ 32 - 1) as_block_fits bs set.chain set.small)) short

-- ---- addresses

-- the families that are written
pub present : Resources → Option Resources
present missing = None
present inherit = Some inherit
present (blocks bs) = Some (blocks bs)

-- the families that are written of addresses
abbrev pub written_families : Ip → Families
written_families i = record { v4 = present i.v4; v6 = present i.v6 }

-- resources that are there are those that stand
pub present_is : (r : Resources) → or_missing (present r) ≡ r
unfolding present
present_is missing = refl
present_is inherit = refl
present_is (blocks bs) = refl

-- the number of a family
abbrev pub number : Family → ℕ
number V4 = 1
number V6 = 2

-- what is written of it
pub afi_written : (f : Family) → enc OCTET_STRING (afi f) ≡ OCTET_STRING ∷ 2 ∷ 0 ∷ number f ∷ []
unfolding enc length_octets
afi_written V4 = refl
afi_written V6 = refl

-- a family that is missing isn't written; another is one value, as its format writes it
abbrev pub IsWritten : Family → Resources → Type 0
IsWritten f r = ((r ≡ missing) × (present r ≡ None) × (family (number f) r ≡ [])) ⊎
    ((r ≡ missing → ⊥) × (present r ≡ Some r) ×
    (family (number f) r ≡ ip_address_family_format.written (f, r) ∷ []))

-- each is written so
pub family_text : (f : Family) (r : Resources) → IsWritten f r
unfolding ip_address_family_format resource_choice present
family_text f missing = inl (refl, refl, refl)
family_text f inherit = inr (λ e. absurd cc, refl, ap (λ (t : List ℕ). enc SEQUENCE (t ++ null) ∷ []) (sym (afi_written f)))
family_text f (blocks bs) =
    inr (
      λ e. absurd cc,
      refl,
      λ i. enc SEQUENCE (sym (afi_written f) i ++ enc SEQUENCE (flat_map (λ b. sym (block_text f b) i) bs)) ∷ [],
    )

family_fits : (f : Family) (r : Resources) → IsResources (2 ^ 128 - 1) r →
    ((bs : List Block) → r ≡ blocks bs → IsSet (2 ^ 128 - 1) bs →
    AllByRecursion (ip_address_or_range_format f).fits bs) → (r ≡ missing → ⊥) →
    ip_address_family_format.fits (f, r)
unfolding ip_address_family_format
family_fits f r fit all there = (named f, (refl, choice_fits (ip_address_or_range_format f) (2 ^ 128 - 1) r fit there all))
  where
    named : (f : Family) → (family_of (afi f) ≡ Some f) × AreOctets (afi f)
    named V4 = (refl, (omega arith, (omega arith, tt)))
    named V6 = (refl, (omega arith, (omega arith, tt)))

-- what is written of addresses is what the format of their families writes
ip_written : (i : Ip) (c : List ℕ) → ip i ≡ Some c →
    ((i.v4 ≡ missing → ⊥) → ip_address_family_format.fits (V4, i.v4)) →
    ((i.v6 ≡ missing → ⊥) → ip_address_family_format.fits (V6, i.v6))
    → ip_addr_blocks_format.fits (written_families i) × (ip_addr_blocks_format.written (written_families i) ≡ c)
unfolding ip_addr_blocks_format
ip_written i c e four six =
    elim (family_text V4 i.v4) [
      | inl a ↦ elim (family_text V6 i.v6) [
        | inl b ↦ let none : sequence_of_some [] ≡ Some c = rw (a.2, b.2) at e in absurd cc
        | inr b ↦ rw (a.1, b.1) ((refl, (six b.0, tt)), same_Some _ _ (rw (a.2, b.2) at e))
      ]
      | inr a ↦ elim (family_text V6 i.v6) [
        | inl b ↦ rw (a.1, b.1) ((refl, (four a.0, tt)), same_Some _ _ (rw (a.2, b.2) at e))
        | inr b ↦
            let one = ip_address_family_format.written (V4, i.v4) in
            let two = ip_address_family_format.written (V6, i.v6) in
            rw (a.1, b.1) (
              (refl, (four a.0, six b.0)),
              ap (λ (t : List ℕ). enc SEQUENCE (one ++ t)) (sym (append-nil two)) ∙
                  same_Some _ _ (rw (a.2, b.2) at e),
            )
      ]
    ]

-- what is written of addresses encodes them, and consists of octets
pub ip_made : (i : Ip) (c : List ℕ) → ip i ≡ Some c → IsResources (2 ^ 128 - 1) i.v4 → AreV4 i.v4 →
    IsResources (2 ^ 128 - 1) i.v6 → length c < 2 ^ 32 → ip_addr_blocks_format.encodes (written_families i) c ×
    AreOctets c
ip_made i c e f4 only_v4 f6 short =
    let w = ip_written i c e
    (family_fits V4 i.v4 f4 (λ bs is set. all_v4 bs set.chain set.small (subst AreV4 is only_v4)))
    (family_fits V6 i.v6 f6 (λ bs is set. all_fit (ip_address_or_range_format V6) (2 ^ 128 - 1) v6_fits bs set.chain set.small)) in
    is_made ip_addr_blocks_format ip_alone (written_families i) c w.1 w.0 short

-- only of missing AS numbers nothing is written
pub no_as_resources : (r : Resources) → written_as r ≡ None → r ≡ missing
no_as_resources missing e = refl
no_as_resources inherit e = absurd cc
no_as_resources (blocks bs) e = absurd cc

-- only of no pieces no SEQUENCE is written
pub no_pieces : (ps : List (List ℕ)) → sequence_of_some ps ≡ None → ps ≡ []
no_pieces [] e = refl
no_pieces (p ∷ ps) e = absurd cc

-- only where both families are missing nothing is written of addresses
pub no_ip : (i : Ip) → ip i ≡ None → i ≡ record { v4 = missing; v6 = missing }
no_ip i e =
    elim (family_text V4 i.v4) [
      | inl a ↦ elim (family_text V6 i.v6) [
        | inl b ↦ λ j. record { v4 = a.0 j; v6 = b.0 j }
        | inr b ↦ let some : sequence_of_some (ip_address_family_format.written (V6, i.v6) ∷ []) ≡ None = rw (a.2, b.2) at e in absurd cc
      ]
      | inr a ↦ let some : sequence_of_some (ip_address_family_format.written (V4, i.v4) ∷ family 2 i.v6) ≡ None = rw a.2 at e in absurd cc
    ]

-- a SEQUENCE of pieces, if short, consists of octets where they do
pub ok_pieces : (ps : List (List ℕ)) → AllByRecursion IfShort ps → IfSome (sequence_of_some ps) IfShort
ok_pieces [] h = tt
ok_pieces (p ∷ ps) h = ok_enc SEQUENCE _ (omega arith) (ok_concat (p ∷ ps) h)
