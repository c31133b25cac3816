-- The names of errors.
use Rattle.std.specs.Prelude.{List, ℕ, codes}
use Rattle.rpki_keys.specs.declared.tal.tal_error.TalError.{TalError}
use Rattle.rpki_keys.specs.declared.tal.tal_error.TalError.TheVariants.{NoText, BadUri, NoUri, NoKey, BadKey, Memory}

-- the name of the error
abbrev pub tal_error_name : TalError → List ℕ
tal_error_name NoText = codes "NoText"
tal_error_name BadUri = codes "BadUri"
tal_error_name NoUri = codes "NoUri"
tal_error_name NoKey = codes "NoKey"
tal_error_name BadKey = codes "BadKey"
tal_error_name Memory = codes "Memory"
