-- What is found in the tables of the code is found in those of the definitions, and each fault has
-- its line there.
use Rattle.std.proofs.Common.{◌≡◌, ◌≢◌, ◌↔◌, ◌≤◌, ℕ, ◌/◌, Bool, Bor, true, false, cond, List, [], ◌∷◌, map, find}
use Rattle.std.proofs.Common.{is_some, Option, Some, None, option_copied, option_map, refl, sym, ap, ◌∙◌, arith}
use Rattle.std.specs.Option.{option_or}
use Rattle.rpki_der.specs.ErrorNames.{decode_error_name}
use Rattle.rpki_der.specs.declared.error.DecodeError.{DecodeError}
use Rattle.rpki_der.specs.declared.error.DecodeError.TheVariants as decoding
use Rattle.rpki_der.specs.declared.error.Field.{Field}
use Rattle.rpki_der.specs.declared.error.Field.TheVariants as field
use Rattle.rpki_ext.specs.Inspection.{inspection_error_name}
use Rattle.rpki_ext.specs.declared.inspection.InspectionError.{InspectionError}
use Rattle.rpki_ext.specs.declared.inspection.InspectionError.TheVariants as inspection
use Rattle.rpki_cert.specs.Verification.{verification_error_name}
use Rattle.rpki_cert.specs.declared.verification_error.VerificationError.{VerificationError}
use Rattle.rpki_cert.specs.declared.verification_error.VerificationError.TheVariants as verification
use Rattle.rpki_crl.specs.Revocation.{revocation_error_name}
use Rattle.rpki_crl.specs.declared.revocation_error.RevocationError.{RevocationError}
use Rattle.rpki_crl.specs.declared.revocation_error.RevocationError.TheVariants as revocation
use Rattle.rpki_keys.specs.TalErrors.{tal_error_name}
use Rattle.rpki_keys.specs.declared.tal.tal_error.TalError.{TalError}
use Rattle.rpki_keys.specs.declared.tal.tal_error.TalError.TheVariants as tal
use Rattle.rpki_files.specs.FaultTable.{FaultFields, IsNumberedFault, fault_fields, field_number, first_named}
use Rattle.rpki_files.specs.FaultTable.{general_faults, inspection_fault, inspection_faults, locator_fault}
use Rattle.rpki_files.specs.FaultTable.{locator_faults, part_numbered, part_table, reading_fault, reading_faults}
use Rattle.rpki_files.specs.FaultTable.{revocation_fault, revocation_faults, or_no_fault, fault_named, table_of}
use Rattle.rpki_files.specs.FaultTable.{verification_fault, verification_faults}
use Rattle.rpki_files.specs.declared.faults.Fault.{Fault}
use Rattle.rpki_files.specs.declared.faults.FaultKind.{FaultKind}

-- ---- the tables of the code

find_of_map : {A B : Type 0} (f : A → B) (p : B → Bool) (xs : List A) → find p (map f xs) ≡ option_map f (find (λ (x : A). p (f x)) xs)
find_of_map f p [] = refl
find_of_map {A} {B} f p (x ∷ xs) =
    elim (p (f x)) as (λ b. cond b (Some (f x)) (find p (map f xs)) ≡ option_map f (cond b (Some x) (find (λ (y : A). p (f y)) xs)))
    [ true ↦ refl | false ↦ find_of_map f p xs ]

-- what is found of these by a test
pub found_fault : (xs : List Fault) (table : List FaultFields) → map fault_fields xs ≡ table →
    (p : FaultFields → Bool) (found : Option Fault) → found ≡ find (λ (it : Fault). p (fault_fields it)) xs →
    option_map fault_fields found ≡ find p table
found_fault xs table same p found is = ap (option_map fault_fields) is ∙ sym (find_of_map fault_fields p xs) ∙ ap (find p) same

abbrev pub seen : Option (Bor Fault) → Option FaultFields
seen found = option_map fault_fields (option_copied found)

seen_or : (a b : Option (Bor Fault)) → seen (option_or a b) ≡ option_or (seen a) (seen b)
seen_or (Some x) b = refl
seen_or None b = refl

-- the fault of a name, which is looked for among those of no kind first
pub named_fault : (of : FaultKind) (name : List ℕ) (general found : Option (Bor Fault)) →
    seen general ≡ first_named name general_faults → seen found ≡ first_named name (table_of of) →
    or_no_fault (seen (option_or general found)) ≡ fault_named of name
unfolding fault_named
named_fault of name general found is1 is2 =
    ap or_no_fault (seen_or general found)
    ∙ ap (λ (a : Option FaultFields). or_no_fault (option_or a (seen found))) is1
    ∙ ap (λ (b : Option FaultFields). or_no_fault (option_or (first_named name general_faults) b)) is2

-- ---- each fault's line

-- the number of a fault of reading: 1 where memory ran out, and else from 100 to 200
pub record IsReadingNumber (e : DecodeError) (number : ℕ) : Type 0 where
  pub memory : number ≡ 1 ↔ e ≡ decoding.Memory
  pub great : number ≢ 1 → 100 ≤ number
  pub small : number ≤ 200

pub reading_numbers : (e : DecodeError) → IsReadingNumber e (reading_fault e).number
unfolding fault_named general_faults reading_faults
reading_numbers decoding.Memory =
    record { memory = ((λ is. refl), (λ is. refl)); great = λ other. absurd (other refl); small = omega arith }
reading_numbers _ = record {
  memory = ((λ is. absurd (omega (arith, is))), (λ is. absurd cc));
  great =
      λ other. omega arith;
  small = omega arith;
}

pub readings : (e : DecodeError) → IsNumberedFault (decode_error_name e) (reading_fault e)
unfolding fault_named general_faults reading_faults
readings decoding.Memory = record { name_is = refl; numbered = refl }
readings _ = record { name_is = refl; numbered = refl }

pub inspections : (e : InspectionError) →
    ((inspection_fault e).number / 100 ≡ 3) × IsNumberedFault (inspection_error_name e) (inspection_fault e)
unfolding fault_named general_faults inspection_faults
inspections inspection.AlgorithmMismatch = (refl, record { name_is = refl; numbered = refl })
inspections _ = (refl, record { name_is = refl; numbered = refl })

pub verifications : (e : VerificationError) →
    ((verification_fault e).number ≢ 1 → (verification_fault e).number / 100 ≡ 4) ×
    IsNumberedFault (verification_error_name e) (verification_fault e)
unfolding fault_named general_faults verification_faults
verifications verification.Memory = ((λ other. absurd (other refl)), record { name_is = refl; numbered = refl })
verifications _ = ((λ other. refl), record { name_is = refl; numbered = refl })

pub revocations : (e : RevocationError) →
    ((revocation_fault e).number / 100 ≡ 5) × IsNumberedFault (revocation_error_name e) (revocation_fault e)
unfolding fault_named general_faults revocation_faults
revocations revocation.NoCrl = (refl, record { name_is = refl; numbered = refl })
revocations _ = (refl, record { name_is = refl; numbered = refl })

pub locators : (e : TalError) → ((locator_fault e).number ≢ 1 → (locator_fault e).number / 100 ≡ 7) ×
    IsNumberedFault (tal_error_name e) (locator_fault e)
unfolding fault_named general_faults locator_faults
locators tal.Memory = ((λ other. absurd (other refl)), record { name_is = refl; numbered = refl })
locators _ = ((λ other. refl), record { name_is = refl; numbered = refl })

pub parts : (field : Field) → is_some (part_numbered (field_number field)) ≡ true
unfolding part_table
parts field.BasicConstraints = refl
parts _ = refl
