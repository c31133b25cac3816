use Rattle.std.specs.Prelude.{◌↔◌, option_map, IfOk, IsTrue}
use Rattle.std.proofs.Common.{Bor, ◌≡◌, sym, subst}
use Rattle.rpki_cert.specs.Verification.{ResourceFields}
use Rattle.rpki_cert.specs.declared.inspect.Kind.{Kind}
use Rattle.rpki_parts.specs.Keys.{KeyFields}
use Rattle.rpki_issuing.specs.IssuingRules.{HasOwnKey, IsNoKeyOf, IsNotIssuersKey}
use Rattle.rpki_issuing.proofs.wanted.rules.has_own_key.Goals as goal

pub returns-in-Authority : goal.returns-in-Authority
returns-in-Authority c =
    let above = option_map (λ (r : Bor ResourceFields). r.now) c.args.issuer in
    let key : c.subject_public_key_info.result.now ≡ c.args.tbs.now.key = c.subject_public_key_info.ensures in
    subst (λ (k : Kind). IfOk c.is_own_key.result
    (λ has. IsTrue has ↔ HasOwnKey k above c.args.path.now c.args.tbs.now)) (sym c.in-Authority.is)
    (subst (λ (k : KeyFields). IfOk c.is_own_key.result
    (λ has. IsTrue has ↔ IsNotIssuersKey above k × IsNoKeyOf c.args.path.now k)) key c.is_own_key.ensures)
