-- The names of the errors of rearranging, and which of them reading and writing give.
use Rattle.std.specs.Prelude.{ℕ, List, codes}
use Rattle.rpki_der.specs.declared.error.DecodeError.{DecodeError}
use Rattle.rpki_der.specs.declared.error.DecodeError.TheVariants as reading
use Rattle.rpki_der.specs.declared.error.EncodeError.{EncodeError}
use Rattle.rpki_der.specs.declared.error.EncodeError.TheVariants as writing
use Rattle.rpki_cert.specs.declared.rearrange_error.RearrangeError.{RearrangeError}
use Rattle.rpki_cert.specs.declared.rearrange_error.RearrangeError.TheVariants.{NoCertificate, NotAnOrder, KnownExtra, TooLong, Memory}

-- the name of the error
abbrev pub rearrange_error_name : RearrangeError → List ℕ
rearrange_error_name NoCertificate = codes "NoCertificate"
rearrange_error_name NotAnOrder = codes "NotAnOrder"
rearrange_error_name KnownExtra = codes "KnownExtra"
rearrange_error_name TooLong = codes "TooLong"
rearrange_error_name Memory = codes "Memory"

-- octets that can't be read are no certificate
abbrev pub of_reading : DecodeError → RearrangeError
of_reading reading.Memory = Memory
of_reading _ = NoCertificate

-- the error of rearranging that says what a writer's error says
abbrev pub of_writing : EncodeError → RearrangeError
of_writing writing.TooLong = TooLong
of_writing writing.Memory = Memory
