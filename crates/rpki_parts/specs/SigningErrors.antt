-- The names of the errors of signing.
use Rattle.std.specs.Prelude.{ℕ, List, codes}
use Rattle.rpki_der.specs.declared.error.EncodeError.{EncodeError}
use Rattle.rpki_der.specs.declared.error.EncodeError.TheVariants as writing
use Rattle.rpki_parts.specs.declared.signature.SigningError.{SigningError}
use Rattle.rpki_parts.specs.declared.signature.SigningError.TheVariants.{Signer, TooLong, Memory}

-- the name of the error
abbrev pub signing_error_name : {E : Type 0} → SigningError E → List ℕ
signing_error_name (Signer e) = codes "Signer"
signing_error_name TooLong = codes "TooLong"
signing_error_name Memory = codes "Memory"

-- what a writer refused, as an error of signing
abbrev pub as_signing_error : {E : Type 0} → EncodeError → SigningError E
as_signing_error writing.TooLong = TooLong
as_signing_error writing.Memory = Memory
