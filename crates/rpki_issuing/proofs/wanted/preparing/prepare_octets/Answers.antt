use Rattle.std.specs.Prelude.{option_map, Err}
use Rattle.std.proofs.Common.{Bor, ◌≡◌, ◌∙◌, ap, rules, subst}
use Rattle.rpki_cert.proofs.Checks.{first_not_all}
use Rattle.rpki_cert.specs.Certificates.{TbsFields, encoding}
use Rattle.rpki_cert.specs.Verification.{ResourceFields, context}
use Rattle.rpki_keys.specs.RsaSignatures.{IsSignedByRsa}
use Rattle.rpki_issuing.specs.Acceptance.{IsUnrevokedIn}
use Rattle.rpki_issuing.specs.IssuingRules.{RuleCheck, issuing_rules}
use Rattle.rpki_issuing.specs.PreparedOctets.{IsListedFault}
use Rattle.rpki_issuing.specs.Readiness.{unsigned_certificate}
use Rattle.rpki_issuing.proofs.SameRoles.{role_ready, on_ok, on_err}
use Rattle.rpki_issuing.proofs.ToldFaults.{unprepared, listed, refused_listed}
use Rattle.rpki_issuing.proofs.wanted.preparing.prepare_octets.Goals as goal

pub returns-in-Some-2-clause-refused : goal.returns-in-Some-2-clause-refused
returns-in-Some-2-clause-refused g c = λ apart octets p.
    let first = rw c.in-Some-2.is at c.in_ok-rule.ensures in
    first_not_all (RuleCheck c.args.kind (option_map (λ (r : Bor ResourceFields). r.now) c.args.issuer)
    c.args.path.now c.args.tbs.now) issuing_rules c.in-Some-2.rule first p.rules

pub returns-in-Some-2-clause-told : goal.returns-in-Some-2-clause-told
returns-in-Some-2-clause-told g c = rw c.in-Some-2.is at c.in_ok-rule.ensures

pub returns-in_err-prepared-clause-refused : goal.returns-in_err-prepared-clause-refused
returns-in_err-prepared-clause-refused g c =
    let e = c.in_err-prepared.field-0.0 in
    let same : c.from_residual-in_err-prepared.result ≡ Err e = search rules in
    rw same (λ apart octets p. c.in_err-prepared.ensures.unready apart
    (role_ready c.args.at c.args.strict c.args.tbs.now c.args.kind _ p.role c.in-Some.role p.role_is
    c.in-Some.ensures p.ready))

pub returns-in_err-prepared-clause-told : goal.returns-in_err-prepared-clause-told
returns-in_err-prepared-clause-told g c =
    let e = c.in_err-prepared.field-0.0 in
    let same : c.from_residual-in_err-prepared.result ≡ Err e = search rules in
    rw same (unprepared c.args.kind _ _ _ c.args.at c.args.strict c.args.tbs.now c.in-Some.role c.in-Some.ensures e
    c.in_err-prepared.ensures.told)

pub returns-clause-prepared : goal.returns-clause-prepared
returns-clause-prepared g c =
    let x = context IsSignedByRsa c.args.at c.args.strict in
    let asked = g.R.RevocationSource.asks c.args.asked.now x in
    let above = option_map (λ (r : Bor ResourceFields). r.now) c.args.issuer in
    let fields = c.in_ok-prepared.ensures.fields in
    let made = c.octets_to_sign-octets in
    on_ok _ _ (IsUnrevokedIn asked above (unsigned_certificate c.in_ok-prepared.prepared)) made.result
    made.ensures.octets
    made.ensures.unrevoked
    (λ octets same free. record {
      role = c.in-Some.role;
      role_is = c.in-Some.ensures;
      rules = rw c.in_default-2.is at c.in_ok-rule.ensures;
      ready = c.in_ok-prepared.ensures.ready;
      unrevoked = subst (λ (f : TbsFields). IsUnrevokedIn asked above (unsigned_certificate f)) fields free;
      octets_are = same ∙ ap (λ (f : TbsFields). encoding f) fields;
    })

pub returns-clause-refused : goal.returns-clause-refused
returns-clause-refused g c =
    let x = context IsSignedByRsa c.args.at c.args.strict in
    let asked = g.R.RevocationSource.asks c.args.asked.now x in
    let above = option_map (λ (r : Bor ResourceFields). r.now) c.args.issuer in
    let made = c.octets_to_sign-octets in
    on_err _ _ made.result made.ensures.told
    (λ e told apart octets p. refused_listed asked above (unsigned_certificate c.args.tbs.now) e apart
    (subst (λ (f : TbsFields). IsListedFault asked above (unsigned_certificate f) e) c.in_ok-prepared.ensures.fields
    told)
    p.unrevoked)

pub returns-clause-told : goal.returns-clause-told
returns-clause-told g c =
    let x = context IsSignedByRsa c.args.at c.args.strict in
    let asked = g.R.RevocationSource.asks c.args.asked.now x in
    let above = option_map (λ (r : Bor ResourceFields). r.now) c.args.issuer in
    let made = c.octets_to_sign-octets in
    on_err _ _ made.result made.ensures.told
    (λ e told. listed c.args.kind above c.args.path.now asked c.args.at c.args.strict c.args.tbs.now e
    (subst (λ (f : TbsFields). IsListedFault asked above (unsigned_certificate f) e) c.in_ok-prepared.ensures.fields
    told))
