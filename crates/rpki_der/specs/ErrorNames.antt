-- The names of the errors.
use Rattle.std.specs.Prelude.{ℕ, List, codes}
use Rattle.rpki_der.specs.declared.error.DecodeError.{DecodeError}
use Rattle.rpki_der.specs.declared.error.DecodeError.TheVariants.{Truncated, BadLength, BadTag, BadValue, Trailing}
use Rattle.rpki_der.specs.declared.error.DecodeError.TheVariants.{TooDeep, Missing, Duplicate, Critical, NotCritical}
use Rattle.rpki_der.specs.declared.error.DecodeError.TheVariants.{UnexpectedCritical, InvalidExtension}
use Rattle.rpki_der.specs.declared.error.DecodeError.TheVariants.{WrongResources, AlgorithmMismatch, Memory}
use Rattle.rpki_der.specs.declared.error.EncodeError.{EncodeError}
use Rattle.rpki_der.specs.declared.error.EncodeError.TheVariants as writing

-- the name of the error
abbrev pub decode_error_name : DecodeError → List ℕ
decode_error_name Truncated = codes "Truncated"
decode_error_name BadLength = codes "BadLength"
decode_error_name BadTag = codes "BadTag"
decode_error_name BadValue = codes "BadValue"
decode_error_name Trailing = codes "Trailing"
decode_error_name TooDeep = codes "TooDeep"
decode_error_name (Missing field) = codes "Missing"
decode_error_name (Duplicate field) = codes "Duplicate"
decode_error_name (Critical field) = codes "Critical"
decode_error_name (NotCritical field) = codes "NotCritical"
decode_error_name (UnexpectedCritical oid) = codes "UnexpectedCritical"
decode_error_name (InvalidExtension oid) = codes "InvalidExtension"
decode_error_name (WrongResources field) = codes "WrongResources"
decode_error_name AlgorithmMismatch = codes "AlgorithmMismatch"
decode_error_name Memory = codes "Memory"

-- the name of the error
abbrev pub encode_error_name : EncodeError → List ℕ
encode_error_name writing.TooLong = codes "TooLong"
encode_error_name writing.Memory = codes "Memory"
