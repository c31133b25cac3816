use Rattle.std.specs.Prelude.{option_map}
use Rattle.std.proofs.Common.{Bor}
use Rattle.rpki_cert.specs.Verification.{ResourceFields}
use Rattle.rpki_issuing.proofs.CertifiedKeys.{own_too}
use Rattle.rpki_issuing.proofs.wanted.rules.is_own_key.Goals as goal

pub returns-then-is_not_issuers_key : goal.returns-then-is_not_issuers_key
returns-then-is_not_issuers_key c =
    let above = option_map (λ (r : Bor ResourceFields). r.now) c.args.issuer in
    own_too c.args.key.now above c.args.path.now (c.is_not_issuers_key.ensures.0 c.if-is_not_issuers_key.true)
    c.is_no_key_of.result c.is_no_key_of.ensures
