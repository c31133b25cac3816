-- Pieces that are written one behind the other, and how long sentences are.
use Rattle.std.proofs.Common.{◌≡◌, ◌<◌, ◌+◌, ◌^◌, ◌/◌, ◌%◌, ◌==◌, nat_lt, ℕ, Bool, true, false, cond, List, [], ◌∷◌}
use Rattle.std.proofs.Common.{◌++◌, length, take, drop, find, zero, suc, Option, Some, None, IfSome, option_map}
use Rattle.std.proofs.Common.{slice_get, refl, sym, ap, ◌∙◌, arith}
use Rattle.std.specs.List.{list_all}
use Rattle.std.proofs.Math.Seq.{take-nil, drop-nil}
use Rattle.std.proofs.lemmas.Bool.{and_parts}
use Rattle.std.proofs.lemmas.Bool.Decides.{Decides-ltb}
use Rattle.std.proofs.lemmas.List.{length-append, append_assoc}
use Rattle.rpki_files.specs.FaultTable.{FaultFields, PartFields, fault_numbered, general_faults, inspection_faults}
use Rattle.rpki_files.specs.FaultTable.{issuing_faults, kind_of_hundreds, locator_faults, part_numbered, part_table}
use Rattle.rpki_files.specs.FaultTable.{path_faults, reading_faults, revocation_faults, table_of}
use Rattle.rpki_files.specs.FaultTable.{verification_faults}
use Rattle.rpki_files.specs.declared.faults.FaultKind.{FaultKind}
use Rattle.rpki_files.specs.declared.faults.FaultKind.TheVariants as kind
use Rattle.rpki_c.specs.FaultTexts.{first_number, has_part, part_name, told_if, told_of}
use Rattle.rpki_c.specs.Writing.{written_over}

-- two pieces are written as one where the second is written behind the first
pub behind_first : {A : Type 0} (a b old : List A) →
    take (length a) (written_over a old) ++ written_over b (drop (length a) (written_over a old)) ≡
    written_over (a ++ b) old
behind_first {A} [] b old = ap (λ (xs : List A). written_over b (xs ++ old)) (take-nil (length old))
behind_first {A} (x ∷ a) b [] = drop-nil {A = A} (length b)
behind_first {A} (x ∷ a) b (o ∷ old) = ap (λ (xs : List A). x ∷ xs) (behind_first a b old)

-- three pieces, each behind the one before
pub three_pieces : {A : Type 0} (a p b old o1 o2 o3 : List A) → o1 ≡ written_over a old →
    o2 ≡ take (length a) o1 ++ written_over p (drop (length a) o1) →
    o3 ≡ take (length a + length p) o2 ++ written_over b (drop (length a + length p) o2) →
    o3 ≡ written_over (a ++ (p ++ b)) old
three_pieces {A} a p b old o1 o2 o3 is1 is2 is3 =
    let first : o2 ≡ written_over (a ++ p) old =
    is2 ∙ ap (λ (o : List A). take (length a) o ++ written_over p (drop (length a) o)) is1 ∙
    behind_first a p old in
    is3
    ∙ ap (λ (n : ℕ). take n o2 ++ written_over b (drop n o2)) (sym (length-append a p))
    ∙ ap (λ (o : List A). take (length (a ++ p)) o ++ written_over b (drop (length (a ++ p)) o)) first
    ∙ behind_first (a ++ p) b old
    ∙ ap (λ (xs : List A). written_over xs old) (append_assoc a p b)

-- ---- how long sentences are

-- what is found passes a test that all pass
found_passes : {X : Type 0} (p q : X → Bool) (xs : List X) → list_all q xs ≡ true → IfSome (find p xs) (λ x. q x ≡ true)
found_passes p q [] all = tt
found_passes {X} p q (x ∷ xs) all =
    let both = and_parts (q x) (list_all q xs) all in
    elim (p x) as (λ b. IfSome (cond b (Some x) (find p xs)) (λ y. q y ≡ true))
    [ true ↦ both.0 | false ↦ found_passes p q xs both.1 ]

got_passes : {X : Type 0} (q : X → Bool) (xs : List X) (i : ℕ) → list_all q xs ≡ true →
    IfSome (slice_get xs i) (λ x. q x ≡ true)
got_passes q [] i all = tt
got_passes q (x ∷ xs) zero all = (and_parts (q x) (list_all q xs) all).0
got_passes q (x ∷ xs) (suc i) all = got_passes q xs i (and_parts (q x) (list_all q xs) all).1

abbrev has_short_name : PartFields → Bool
has_short_name it = nat_lt (length it.name) 1000

abbrev is_short : FaultFields → Bool
is_short it = nat_lt (length it.before + length it.behind) 1000

names_are_short : list_all has_short_name part_table ≡ true
unfolding part_table
names_are_short = refl

faults_are_short : (of : FaultKind) → list_all is_short (table_of of) ≡ true
unfolding general_faults reading_faults inspection_faults verification_faults revocation_faults path_faults
    locator_faults issuing_faults
faults_are_short kind.General = refl
faults_are_short _ = refl

part_is_short : (n : ℕ) → IfSome (part_name n) (λ part. nat_lt (length part) 1000 ≡ true)
part_is_short n = there (has_part n)
  where
    named : (found : Option PartFields) → IfSome found (λ it. has_short_name it ≡ true) →
        IfSome (option_map (λ (it : PartFields). it.name) found) (λ part. nat_lt (length part) 1000 ≡ true)
    named None short = tt
    named (Some it) short = short

    there : (b : Bool) → IfSome
        (cond b (option_map (λ (it : PartFields). it.name) (part_numbered (n % 20))) (Some []))
        (λ part. nat_lt (length part) 1000 ≡ true)
    there true = named (part_numbered (n % 20)) (got_passes has_short_name part_table (n % 20) names_are_short)
    there false = refl

-- a sentence has fewer than 2^32 octets
pub sentence_is_short : (n : ℕ) → IfSome (told_of n) (λ it. length it.sentence < 2 ^ 32)
sentence_is_short n = here (part_name n) (fault_numbered (first_number n)) (part_is_short n)
    (found_passes (λ (it : FaultFields). it.number == first_number n) is_short
    (table_of (kind_of_hundreds (first_number n / 100)))
    (faults_are_short (kind_of_hundreds (first_number n / 100))))
  where
    here : (part : Option (List ℕ)) (line : Option FaultFields) →
        IfSome part (λ name. nat_lt (length name) 1000 ≡ true) → IfSome line (λ it. is_short it ≡ true) →
        IfSome (told_if part line) (λ it. length it.sentence < 2 ^ 32)
    here None line a b = tt
    here (Some part) None a b = tt
    here (Some part) (Some line) a b =
        omega (
          arith,
          length-append line.before (part ++ line.behind),
          length-append part line.behind,
          (Decides-ltb (length part) 1000).0 a,
          (Decides-ltb (length line.before + length line.behind) 1000).0 b,
        )
