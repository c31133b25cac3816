-- What contracts see of a validator.
use Rattle.rpki_parts.specs.Signatures.{Verifies}
use Rattle.rpki_cert.specs.Verification.{Context, context}
use Rattle.rpki_path.specs.Asking.{RevocationChecks}
use Rattle.rpki_path.specs.declared.validator.Validator.{Validator}

-- what it judges by: the context, and the checks of revocation
pub record ValidatorFields : Type 1 where
  pub context : Context
  pub asked : RevocationChecks

-- these of a validator, by what its verifier and its source of revocation state
abbrev pub validator_view : {R V : Type 0} → (V → Verifies) → (R → Context → RevocationChecks)
    → Validator R V → ValidatorFields
validator_view verifies asks v =
    let x = context (verifies v.verifier.now) v.at v.strict in
    record { context = x; asked = asks v.asked.now x }
