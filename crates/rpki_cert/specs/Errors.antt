-- The errors that conversions give.
use Rattle.rpki_parts.specs.declared.valid_at.ValidityError.{ValidityError}
use Rattle.rpki_parts.specs.declared.valid_at.ValidityError.TheVariants as time
use Rattle.rpki_cert.specs.declared.verification_error.VerificationError.{VerificationError}
use Rattle.rpki_cert.specs.declared.verification_error.VerificationError.TheVariants.{NotYetValid, Expired}

-- the error of verification that says what a validity's error says
abbrev pub of_validity : ValidityError → VerificationError
of_validity time.NotYetValid = NotYetValid
of_validity time.Expired = Expired
