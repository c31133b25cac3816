-- The names of errors, and the errors that conversions give.
use Rattle.std.specs.Prelude.{ℕ, List, codes}
use Rattle.rpki_der.specs.declared.error.DecodeError.{DecodeError}
use Rattle.rpki_der.specs.declared.error.DecodeError.TheVariants as reading
use Rattle.rpki_der.specs.declared.error.EncodeError.{EncodeError}
use Rattle.rpki_der.specs.declared.error.EncodeError.TheVariants as writing
use Rattle.rpki_cert.specs.declared.validation_error.ValidationError.{ValidationError}
use Rattle.rpki_cert.specs.declared.validation_error.ValidationError.TheVariants.{Inspection, Verification}
use Rattle.rpki_cert.specs.declared.verification_error.VerificationError.{VerificationError}
use Rattle.rpki_cert.specs.declared.verification_error.VerificationError.TheVariants as verifying
use Rattle.rpki_issuing.specs.declared.issuing_error.IssuingError.{IssuingError}
use Rattle.rpki_issuing.specs.declared.issuing_error.IssuingError.TheVariants.{Unwritable, TooLong, Invalid, Memory}

-- the name of the error
abbrev pub issuing_error_name : IssuingError → List ℕ
issuing_error_name Unwritable = codes "Unwritable"
issuing_error_name TooLong = codes "TooLong"
issuing_error_name (Invalid e) = codes "Invalid"
issuing_error_name Memory = codes "Memory"

-- what a writer refused
abbrev pub of_encoding : EncodeError → IssuingError
of_encoding writing.TooLong = TooLong
of_encoding writing.Memory = Memory

-- what a reader rejected
abbrev pub error_of_decoding : DecodeError → IssuingError
error_of_decoding reading.Memory = Memory
error_of_decoding e = Unwritable

-- out of memory is one error, wherever it comes
abbrev pub error_of_verification : VerificationError → IssuingError
error_of_verification verifying.Memory = Memory
error_of_verification e = Invalid (Verification e)

abbrev pub error_of_validation : ValidationError → IssuingError
error_of_validation (Inspection e) = Invalid (Inspection e)
error_of_validation (Verification e) = error_of_verification e
