use Rattle.std.proofs.Common.{◌≡◌, ℕ, List, IfOk, IfErr, subst, ◌∙◌}
use Rattle.rpki_ext.specs.Kinds.{Means}
use Rattle.rpki_cert.specs.Certificates.{IsCertificate}
use Rattle.rpki_cert.specs.Verification.{context}
use Rattle.rpki_path.specs.Asking.{nobody}
use Rattle.rpki_path.specs.Paths.{Finds}
use Rattle.rpki_path.specs.Routers.{router_demand}
use Rattle.rpki_folder.specs.Folders.{string_at}
use Rattle.rpki_folder.proofs.StepAnswers.{octets_here}
use Rattle.rpki_folder.proofs.walk.Walk.unasked_router.Goals as goal

pub returns-clause-begins : goal.returns-clause-begins
returns-clause-begins g c =
    let certs = c.args.self.now.folder.now.certs in
    let octets : c.member.result ≡ string_at certs c.args.place = c.member.ensures ∙
    octets_here certs c.certs.result.now c.args.place c.index-certs-place.result c.certs.ensures
    c.index-certs-place.is c.requires in
    subst (λ (o : List ℕ). IfOk c.router.result (λ d. Means IsCertificate d o)) octets c.router.ensures.begins

pub returns-clause-fault : goal.returns-clause-fault
returns-clause-fault g c =
    let w = c.args.self.now in
    let x = context (g.V.Verifier.verifies w.verifier.now) w.at w.strict in
    let issuer = c.args.issuer.now in
    let certs = w.folder.now.certs in
    let octets : c.member.result ≡ string_at certs c.args.place = c.member.ensures ∙
    octets_here certs c.certs.result.now c.args.place c.index-certs-place.result c.certs.ensures
    c.index-certs-place.is c.requires in
    subst (λ (o : List ℕ). IfErr c.router.result (Finds x (router_demand x nobody issuer) o)) octets
    c.router.ensures.fault
