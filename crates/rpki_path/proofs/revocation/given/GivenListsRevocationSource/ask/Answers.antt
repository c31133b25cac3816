use Rattle.std.proofs.Common.{subst}
use Rattle.rpki_parts.specs.Conditions.{IsFirstFalse}
use Rattle.rpki_cert.specs.Verification.{context}
use Rattle.rpki_crl.specs.Revocation.{revocation_checks}
use Rattle.rpki_path.specs.AskedLists.{GivenFields, IsEligibleNamed, IsLatest, by_named_lists}
use Rattle.rpki_path.proofs.AskedNamedList.{answered}
use Rattle.rpki_path.proofs.revocation.given.GivenListsRevocationSource.ask.Goals as goal

pub returns-in_default : goal.returns-in_default
returns-in_default g c =
    let x = context (g.V.Verifier.verifies c.args.verifier.now) c.args.now c.args.strict in
    subst (λ (given : GivenFields).
    IsFirstFalse (by_named_lists given.names x given.lists c.args.issuer.now.cert.fields c.args.cert.now)
    revocation_checks c.why_none.result) c.self.view_is c.why_none.ensures

pub returns : goal.returns
returns g c =
    let x = context (g.V.Verifier.verifies c.args.verifier.now) c.args.now c.args.strict in
    let issuer = c.args.issuer.now.cert.fields in
    let cert = c.args.cert.now in
    let list = c.in-Some.list.now in
    let latest = subst (λ (given : GivenFields). IsLatest (IsEligibleNamed given.names x.verifies x.now issuer cert)
    cert given.lists list) c.self.view_is c.in-Some.ensures in
    let names = c.verify_issuer_claim.ensures.ok.0 c.if-is_err.ensures.negation in
    answered c.args.self.now.names x c.args.self.now.lists issuer cert list latest names c.said_by.result
    c.said_by.ensures
