-- The names of errors.
use Rattle.std.specs.Prelude.{List, ℕ, codes}
use Rattle.rpki_parts.specs.declared.uri.UriError.{UriError}
use Rattle.rpki_parts.specs.declared.uri.UriError.TheVariants.{BadUri, Memory}

-- the name of the error
abbrev pub uri_error_name : UriError → List ℕ
uri_error_name BadUri = codes "BadUri"
uri_error_name Memory = codes "Memory"
