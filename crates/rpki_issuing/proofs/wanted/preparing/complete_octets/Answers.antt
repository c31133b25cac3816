use Rattle.std.specs.Prelude.{option_map, Err, IsTrue}
use Rattle.std.proofs.Common.{Bor, ◌≡◌, ◌≢◌, ◌^◌, ◌<◌, length, rules, sym, ap, subst, ◌∙◌}
use Rattle.rpki_cert.proofs.Checks.{first_not_all}
use Rattle.rpki_cert.specs.Certificates.{TbsFields, CertFields, IsCertificate, encoding}
use Rattle.rpki_cert.specs.Verification.{ResourceFields, context}
use Rattle.rpki_issuing.specs.Acceptance.{IsUnrevokedIn}
use Rattle.rpki_issuing.specs.IssuingRules.{RuleCheck, issuing_rules}
use Rattle.rpki_issuing.specs.Readiness.{signed_with, IsReady, IsSignatureOf}
use Rattle.rpki_keys.specs.RsaSignatures.{IsSignedByRsa}
use Rattle.rpki_parts.specs.Keys.{KeyFields}
use Rattle.rpki_parts.specs.SignedDatas.{signed_content, signed_data}
use Rattle.rpki_issuing.specs.declared.wanted.preparing.WantedError.TheVariants.{Memory}
use Rattle.rpki_issuing.proofs.Accepted.{accepted_below}
use Rattle.rpki_issuing.proofs.SameRoles.{role_ready, role_key, on_ok, on_err}
use Rattle.rpki_issuing.specs.PreparedOctets.{IsUnsignedAs}
use Rattle.rpki_issuing.proofs.ToldFaults.{uncompleted, unsigned, made_told, refused_made}
use Rattle.rpki_issuing.proofs.wanted.preparing.complete_octets.Goals as goal

pub returns-in-Some-2-clause-refused : goal.returns-in-Some-2-clause-refused
returns-in-Some-2-clause-refused g c = λ apart made p.
    let first = rw c.in-Some-2.is at c.in_ok-rule.ensures in
    first_not_all (RuleCheck c.args.kind (option_map (λ (r : Bor ResourceFields). r.now) c.args.issuer)
    c.args.path.now c.args.tbs.now) issuing_rules c.in-Some-2.rule first p.rules

pub returns-in-Some-2-clause-told : goal.returns-in-Some-2-clause-told
returns-in-Some-2-clause-told g c = rw c.in-Some-2.is at c.in_ok-rule.ensures

pub returns-in_err-prepared-clause-refused : goal.returns-in_err-prepared-clause-refused
returns-in_err-prepared-clause-refused g c =
    let e = c.in_err-prepared.field-0.0 in
    let same : c.from_residual-in_err-prepared.result ≡ Err e = search rules in
    rw same (λ apart made p. c.in_err-prepared.ensures.unready apart
    (role_ready c.args.at c.args.strict c.args.tbs.now c.args.kind _ p.role c.in-Some.role p.role_is
    c.in-Some.ensures p.ready))

pub returns-in_err-prepared-clause-told : goal.returns-in_err-prepared-clause-told
returns-in_err-prepared-clause-told g c =
    let e = c.in_err-prepared.field-0.0 in
    let same : c.from_residual-in_err-prepared.result ≡ Err e = search rules in
    rw same (uncompleted c.args.kind _ _ _ c.args.at c.args.strict c.args.tbs.now c.in-Some.role c.in-Some.ensures
    c.args.octets.now c.args.signature.now e c.in_err-prepared.ensures.told)

pub completed-completed-requires : goal.completed-completed-requires
completed-completed-requires g c =
    subst (λ (f : TbsFields). IsReady c.args.at c.args.strict c.in-Some.role f)
    (sym c.in_ok-prepared.ensures.fields) c.in_ok-prepared.ensures.ready

pub returns-in_err-cert-clause-refused : goal.returns-in_err-cert-clause-refused
returns-in_err-cert-clause-refused g c =
    let f = c.args.tbs.now in
    let value = c.args.signature.now in
    let role = c.in-Some.role in
    let e = c.in_err-cert.field-0.0 in
    let same : c.from_residual-in_err-cert.result ≡ Err e = search rules in
    let unsigned = subst (λ (g : TbsFields). e ≢ Memory →
    length (signed_content (signed_with g value).signed_data) < 2 ^ 32 →
    IsSignatureOf IsSignedByRsa role g value →
    ⊥) c.in_ok-prepared.ensures.fields c.in_err-cert.ensures.unsigned in
    rw same (λ apart made p.
    let key = role_key c.args.at c.args.strict f c.args.kind _ p.role role p.role_is c.in-Some.ensures in
    unsigned apart p.short (subst (λ (k : KeyFields). IsSignedByRsa k f.algorithm (encoding f) value) key p.signed))

pub returns-in_err-cert-clause-told : goal.returns-in_err-cert-clause-told
returns-in_err-cert-clause-told g c =
    let value = c.args.signature.now in
    let role = c.in-Some.role in
    let e = c.in_err-cert.field-0.0 in
    let same : c.from_residual-in_err-cert.result ≡ Err e = search rules in
    rw same (unsigned c.args.kind _ _ _ c.args.at c.args.strict c.args.tbs.now role c.in-Some.ensures
    c.args.octets.now value e
    (subst (λ (g : TbsFields). IsUnsignedAs role g value e) c.in_ok-prepared.ensures.fields c.in_err-cert.ensures.told))

pub returns-clause-completed : goal.returns-clause-completed
returns-clause-completed g c =
    let x = context IsSignedByRsa c.args.at c.args.strict in
    let asked = g.R.RevocationSource.asks c.args.asked.now x in
    let above = option_map (λ (r : Bor ResourceFields). r.now) c.args.issuer in
    let f = c.args.tbs.now in
    let value = c.args.signature.now in
    let role = c.in-Some.role in
    let fields = c.in_ok-prepared.ensures.fields in
    let cert = c.in_ok-cert.cert in
    let content : cert ≡ signed_with f value = c.in_ok-cert.ensures.same ∙
    ap (λ (g : TbsFields). signed_with g value) fields in
    let is : IsTrue c.is_prepared.result = search rules in
    let octets : c.args.octets.now ≡ encoding f = c.is_prepared.ensures.0 is ∙ ap (λ (g : TbsFields). encoding g)
    fields in
    let made = c.octets_unrevoked-made in
    on_ok _ _ ((length (signed_content cert.signed_data) < 2 ^ 32) × IsUnrevokedIn asked above cert) made.result
    made.ensures.ok (λ ok. (made.ensures.fits ok, made.ensures.unrevoked ok))
    (λ all same both. record {
      role = role;
      role_is = c.in-Some.ensures;
      rules = rw c.in_default-2.is at c.in_ok-rule.ensures;
      ready = c.in_ok-prepared.ensures.ready;
      prepared_is = octets;
      signed = subst (λ (g : TbsFields). IsSignatureOf IsSignedByRsa role g value) fields c.in_ok-cert.ensures.signed;
      short = subst (λ (d : CertFields). length (signed_content d.signed_data) < 2 ^ 32) content both.0;
      unrevoked = subst (λ (d : CertFields). IsUnrevokedIn asked above d) content both.1;
      octets_are = same ∙ ap (λ (d : CertFields). signed_data d.signed_data) content;
    })

pub returns-clause-read : goal.returns-clause-read
returns-clause-read g c =
    let f = c.args.tbs.now in
    let value = c.args.signature.now in
    let cert = c.in_ok-cert.cert in
    let content : cert ≡ signed_with f value = c.in_ok-cert.ensures.same ∙
    ap (λ (g : TbsFields). signed_with g value) c.in_ok-prepared.ensures.fields in
    let made = c.octets_unrevoked-made in
    on_ok _ _ (Unit {0}) made.result made.ensures.ok (λ ok. tt)
    (λ all same unit.
    subst (λ (d : CertFields). IsCertificate d all) content
    (subst (λ (b : _). IsCertificate cert b) (sym same) c.in_ok-cert.ensures.read))

pub returns-clause-accepted : goal.returns-clause-accepted
returns-clause-accepted g c =
    let x = context IsSignedByRsa c.args.at c.args.strict in
    let asked = g.R.RevocationSource.asks c.args.asked.now x in
    let above = option_map (λ (r : Bor ResourceFields). r.now) c.args.issuer in
    let cert = c.in_ok-cert.cert in
    let made = c.octets_unrevoked-made in
    on_ok _ _ (IsUnrevokedIn asked above cert) made.result made.ensures.ok made.ensures.unrevoked
    (λ all same free.
    let is = subst (λ (b : _). IsCertificate cert b) (sym same) c.in_ok-cert.ensures.read in
    accepted_below x asked cert all is c.args.kind above c.in-Some.role c.in-Some.ensures c.in_ok-cert.ensures.valid
    c.in_ok-cert.ensures.numbers free)

pub returns-clause-refused : goal.returns-clause-refused
returns-clause-refused g c =
    let x = context IsSignedByRsa c.args.at c.args.strict in
    let asked = g.R.RevocationSource.asks c.args.asked.now x in
    let above = option_map (λ (r : Bor ResourceFields). r.now) c.args.issuer in
    let value = c.args.signature.now in
    let cert = c.in_ok-cert.cert in
    let content : cert ≡ signed_with c.args.tbs.now value = c.in_ok-cert.ensures.same ∙
    ap (λ (g : TbsFields). signed_with g value) c.in_ok-prepared.ensures.fields in
    let made = c.octets_unrevoked-made in
    on_err _ _ made.result made.ensures.told
    (λ e told apart all p.
    refused_made asked above cert e apart told
    (subst (λ (d : CertFields). length (signed_content d.signed_data) < 2 ^ 32) (sym content) p.short)
    (subst (λ (d : CertFields). IsUnrevokedIn asked above d) (sym content) p.unrevoked))

pub returns-clause-told : goal.returns-clause-told
returns-clause-told g c =
    let x = context IsSignedByRsa c.args.at c.args.strict in
    let asked = g.R.RevocationSource.asks c.args.asked.now x in
    let above = option_map (λ (r : Bor ResourceFields). r.now) c.args.issuer in
    let f = c.args.tbs.now in
    let value = c.args.signature.now in
    let cert = c.in_ok-cert.cert in
    let content : cert ≡ signed_with f value = c.in_ok-cert.ensures.same ∙
    ap (λ (g : TbsFields). signed_with g value) c.in_ok-prepared.ensures.fields in
    let made = c.octets_unrevoked-made in
    on_err _ _ made.result made.ensures.told
    (λ e told. made_told c.args.kind above c.args.path.now asked c.args.at c.args.strict f c.in-Some.role
    c.in-Some.ensures c.args.octets.now value e cert content told)
