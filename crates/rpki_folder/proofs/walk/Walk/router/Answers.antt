use Rattle.std.proofs.Common.{rules, ◌≡◌, Err}
use Rattle.rpki_parts.specs.Conditions.{IsFirstFalse}
use Rattle.rpki_cert.specs.Verification.{context, IsVerified}
use Rattle.rpki_crl.specs.Revocation.{revocation_checks}
use Rattle.rpki_path.specs.AskedLists.{by_named_lists}
use Rattle.rpki_path.specs.declared.path_fault.PathFault.TheVariants.{Revocation}
use Rattle.rpki_folder.specs.Folders.{string_at}
use Rattle.rpki_folder.proofs.IssuersList.{as_all}
use Rattle.rpki_folder.proofs.UnaskedSteps.{router_names_issuer, router_not_revoked, router_is_revoked}
use Rattle.rpki_folder.proofs.walk.Walk.router.Goals as goal

pub returns-in_err-cert-2-clause-fault : goal.returns-in_err-cert-2-clause-fault
returns-in_err-cert-2-clause-fault g c =
    let w = c.args.self.now in
    let x = context (g.V.Verifier.verifies w.verifier.now) w.at w.strict in
    let lists = w.folder.now.lists in
    let octets = string_at w.folder.now.certs c.args.place in
    let issuer = c.args.issuer.now in
    let cert = c.in_ok-cert.cert in
    let e = c.in_err-cert-2.field-0.0 in
    let same : c.from_residual-in_err-cert-2.result ≡ Err (Revocation e) = search rules in
    let below = router_names_issuer x (by_named_lists w.names x lists) issuer octets cert c.in_ok-cert.ensures.ok in
    let tests = as_all w.names x lists issuer.cert.fields cert below c.args.lists.now c.requires.kept
    c.ask-test.result c.ask-test.ensures in
    let first : IsFirstFalse (by_named_lists w.names x lists issuer.cert.fields cert) revocation_checks e =
    rw c.in_err-cert-2.ensures.rejected at tests in
    rw same (router_is_revoked x (by_named_lists w.names x lists) issuer octets cert c.in_ok-cert.ensures.ok
    c.in_ok-cert.ensures.begins e first)

pub returns-clause-ok : goal.returns-clause-ok
returns-clause-ok g c =
    let w = c.args.self.now in
    let x = context (g.V.Verifier.verifies w.verifier.now) w.at w.strict in
    let lists = w.folder.now.lists in
    let octets = string_at w.folder.now.certs c.args.place in
    let issuer = c.args.issuer.now in
    let cert = c.in_ok-cert.cert in
    let below = router_names_issuer x (by_named_lists w.names x lists) issuer octets cert c.in_ok-cert.ensures.ok in
    let tests = as_all w.names x lists issuer.cert.fields cert below c.args.lists.now c.requires.kept
    c.ask-test.result c.ask-test.ensures in
    let free : IsVerified (by_named_lists w.names x lists issuer.cert.fields cert) revocation_checks =
    rw c.in_ok-cert-2.ensures.ok.1 at tests in
    rw c.in_ok-cert-2.ensures.ok.0
    (router_not_revoked x (by_named_lists w.names x lists) issuer octets cert c.in_ok-cert.ensures.ok free)
