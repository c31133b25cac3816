-- The number of each fault tells its name.
use Rattle.std.proofs.Common.{◌≡◌, ◌≢◌, ◌≤◌, ◌⊎◌, inl, inr, ℕ, zero, suc, Some, refl, arith}
use Rattle.rpki_der.specs.ErrorNames.{decode_error_name}
use Rattle.rpki_der.specs.declared.error.DecodeError.{DecodeError}
use Rattle.rpki_der.specs.declared.error.DecodeError.TheVariants as decoding
use Rattle.rpki_der.specs.declared.error.Field.TheVariants as field
use Rattle.rpki_ext.specs.Inspection.{inspection_error_name}
use Rattle.rpki_ext.specs.declared.inspection.InspectionError.{InspectionError}
use Rattle.rpki_ext.specs.declared.inspection.InspectionError.TheVariants as inspection
use Rattle.rpki_cert.specs.Verification.{verification_error_name}
use Rattle.rpki_cert.specs.declared.verification_error.VerificationError.{VerificationError}
use Rattle.rpki_cert.specs.declared.verification_error.VerificationError.TheVariants as verification
use Rattle.rpki_crl.specs.Revocation.{revocation_error_name}
use Rattle.rpki_crl.specs.declared.revocation_error.RevocationError.{RevocationError}
use Rattle.rpki_crl.specs.declared.revocation_error.RevocationError.TheVariants as revocation
use Rattle.rpki_issuing.specs.NextLists.{next_list_error_name}
use Rattle.rpki_issuing.specs.declared.next.NextListError.{NextListError}
use Rattle.rpki_issuing.specs.declared.next.NextListError.TheVariants as next
use Rattle.rpki_keys.specs.TalErrors.{tal_error_name}
use Rattle.rpki_keys.specs.declared.tal.tal_error.TalError.{TalError}
use Rattle.rpki_keys.specs.declared.tal.tal_error.TalError.TheVariants as tal
use Rattle.rpki_files.specs.FaultTable.{general_faults, inspection_faults, issuing_faults, locator_faults}
use Rattle.rpki_files.specs.FaultTable.{part_table, reading_faults, revocation_faults, fault_named}
use Rattle.rpki_files.specs.FaultTable.{verification_faults}
use Rattle.rpki_c.specs.FaultNumbers.{decode_number, inspection_number, verification_number, revocation_number}
use Rattle.rpki_c.specs.FaultNumbers.{locator_number, next_list_number, IsReadingNumber}
use Rattle.rpki_c.specs.FaultTexts.{name_told}

-- a number that is 1 or at least 100, and what is added to it
pub memory_or_more : (n added : ℕ) → (n ≢ 1 → 100 ≤ n) → (n ≡ 1 → added ≡ 0) → ((n ≡ 1) × (added ≡ 0)) ⊎ (100 ≤ n)
memory_or_more zero added great none = inr (great (λ is. omega (arith, is)))
memory_or_more (suc zero) added great none = inl (refl, none refl)
memory_or_more (suc (suc n)) added great none = inr (great (λ is. omega (arith, is)))

pub decoding_told : (e : DecodeError) → name_told (decode_number e) ≡ Some (decode_error_name e)
unfolding fault_named general_faults reading_faults part_table
decoding_told (decoding.Missing field.BasicConstraints) = refl
decoding_told (decoding.Duplicate field.BasicConstraints) = refl
decoding_told (decoding.Critical field.BasicConstraints) = refl
decoding_told (decoding.NotCritical field.BasicConstraints) = refl
decoding_told (decoding.WrongResources field.BasicConstraints) = refl
decoding_told _ = refl

-- that memory ran out is a fault of reading, too
pub memory_is_reading : IsReadingNumber 1
unfolding fault_named general_faults
memory_is_reading = (decoding.Memory, refl)

pub inspections : (e : InspectionError) → name_told (inspection_number e) ≡ Some (inspection_error_name e)
unfolding fault_named general_faults inspection_faults
inspections inspection.AlgorithmMismatch = refl
inspections _ = refl

pub verifications : (e : VerificationError) → name_told (verification_number e) ≡ Some (verification_error_name e)
unfolding fault_named general_faults verification_faults
verifications verification.Memory = refl
verifications _ = refl

pub revocations : (e : RevocationError) → name_told (revocation_number e) ≡ Some (revocation_error_name e)
unfolding fault_named general_faults revocation_faults
revocations revocation.NoCrl = refl
revocations _ = refl

pub locators : (e : TalError) → name_told (locator_number e) ≡ Some (tal_error_name e)
unfolding fault_named general_faults locator_faults
locators tal.Memory = refl
locators _ = refl

pub next_lists : (e : NextListError) → name_told (next_list_number e) ≡ Some (next_list_error_name e)
unfolding fault_named general_faults issuing_faults
next_lists next.Memory = refl
next_lists _ = refl

-- there is no list that is 0
pub next_lists_are_faults : (e : NextListError) → next_list_number e ≢ 0
unfolding fault_named general_faults issuing_faults
next_lists_are_faults next.Memory = λ is. omega (arith, is)
next_lists_are_faults _ = λ is. omega (arith, is)
