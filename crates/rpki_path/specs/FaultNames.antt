-- The names of faults, and the faults that conversions give.
use Rattle.std.specs.Prelude.{ℕ, List, codes}
use Rattle.rpki_der.specs.declared.error.DecodeError.{DecodeError}
use Rattle.rpki_der.specs.declared.error.DecodeError.TheVariants as decoding
use Rattle.rpki_cert.specs.declared.validation_error.ValidationError.{ValidationError}
use Rattle.rpki_cert.specs.declared.validation_error.ValidationError.TheVariants as validation
use Rattle.rpki_cert.specs.declared.verification_error.VerificationError.{VerificationError}
use Rattle.rpki_cert.specs.declared.verification_error.VerificationError.TheVariants as verification
use Rattle.rpki_path.specs.declared.path_fault.PathFault.{PathFault}
use Rattle.rpki_path.specs.declared.path_fault.PathFault.TheVariants as path

-- the name of the fault
abbrev pub path_fault_name : PathFault → List ℕ
path_fault_name (path.Decode e) = codes "Decode"
path_fault_name (path.Inspect e) = codes "Inspect"
path_fault_name (path.Verify e) = codes "Verify"
path_fault_name (path.Revocation e) = codes "Revocation"
path_fault_name path.Memory = codes "Memory"

-- out of memory is one fault, wherever it comes
abbrev pub of_decoding : DecodeError → PathFault
of_decoding decoding.Memory = path.Memory
of_decoding e = path.Decode e

-- the fault of a path that says what an error of verification says
abbrev pub of_verification : VerificationError → PathFault
of_verification verification.Memory = path.Memory
of_verification e = path.Verify e

-- the fault of a path that says what an error of validation says
abbrev pub of_validation : ValidationError → PathFault
of_validation (validation.Inspection e) = path.Inspect e
of_validation (validation.Verification e) = of_verification e
