use Rattle.std.proofs.Common.{rules, ◌≡◌, Err, subst}
use Rattle.rpki_parts.specs.Conditions.{IsFirstFalse}
use Rattle.rpki_cert.specs.Certificates.{CertFields}
use Rattle.rpki_cert.specs.Verification.{context, IsVerified}
use Rattle.rpki_crl.specs.Revocation.{revocation_checks}
use Rattle.rpki_path.specs.AskedLists.{by_named_lists}
use Rattle.rpki_path.specs.declared.path_fault.PathFault.TheVariants.{Revocation}
use Rattle.rpki_path.specs.Paths.Steps.{kind_of}
use Rattle.rpki_folder.specs.Folders.{string_at}
use Rattle.rpki_folder.specs.IssuerLists.{IsAnswered}
use Rattle.rpki_folder.proofs.IssuersList.{as_all}
use Rattle.rpki_folder.proofs.UnaskedSteps.{names_issuer, not_revoked, is_revoked}
use Rattle.rpki_folder.proofs.walk.Walk.member.Goals as goal

pub returns-in_err-member-2-clause-fault : goal.returns-in_err-member-2-clause-fault
returns-in_err-member-2-clause-fault g c =
    let w = c.args.self.now in
    let x = context (g.V.Verifier.verifies w.verifier.now) w.at w.strict in
    let lists = w.folder.now.lists in
    let octets = string_at w.folder.now.certs c.args.place in
    let issuer = c.args.issuer.now in
    let kind = kind_of c.args.role in
    let member = c.in_ok-member.member in
    let e = c.in_err-member-2.field-0.0 in
    let same : c.from_residual-in_err-member-2.result ≡ Err (Revocation e) = search rules in
    let below = names_issuer x (by_named_lists w.names x lists) issuer octets kind member c.in_ok-member.ensures.ok in
    let answered = subst (λ (d : CertFields). IsAnswered c.args.lists.now w.at d c.ask-test.result)
    c.as_cert.ensures c.ask-test.ensures in
    let tests = as_all w.names x lists issuer.cert.fields member.cert below c.args.lists.now c.requires.kept
    c.ask-test.result answered in
    let first : IsFirstFalse (by_named_lists w.names x lists issuer.cert.fields member.cert) revocation_checks e =
    rw c.in_err-member-2.ensures.rejected at tests in
    rw same (is_revoked x (by_named_lists w.names x lists) issuer octets kind member c.in_ok-member.ensures.ok e first)

pub returns-clause-ok : goal.returns-clause-ok
returns-clause-ok g c =
    let w = c.args.self.now in
    let x = context (g.V.Verifier.verifies w.verifier.now) w.at w.strict in
    let lists = w.folder.now.lists in
    let octets = string_at w.folder.now.certs c.args.place in
    let issuer = c.args.issuer.now in
    let kind = kind_of c.args.role in
    let member = c.in_ok-member.member in
    let below = names_issuer x (by_named_lists w.names x lists) issuer octets kind member c.in_ok-member.ensures.ok in
    let answered = subst (λ (d : CertFields). IsAnswered c.args.lists.now w.at d c.ask-test.result)
    c.as_cert.ensures c.ask-test.ensures in
    let tests = as_all w.names x lists issuer.cert.fields member.cert below c.args.lists.now c.requires.kept
    c.ask-test.result answered in
    let free : IsVerified (by_named_lists w.names x lists issuer.cert.fields member.cert) revocation_checks =
    rw c.in_ok-member-2.ensures.ok.1 at tests in
    rw c.in_ok-member-2.ensures.ok.0
    (not_revoked x (by_named_lists w.names x lists) issuer octets kind member c.in_ok-member.ensures.ok free)
