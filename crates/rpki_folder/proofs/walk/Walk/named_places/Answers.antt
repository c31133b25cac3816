use Rattle.std.specs.Prelude.{Bool, true}
use Rattle.std.proofs.Common.{◌≡◌, ℕ, List, sym, ap, subst, ◌∙◌}
use Rattle.rpki_cert.specs.Certificates.{TbsFields, CertFields}
use Rattle.rpki_folder.specs.KeyTables.{places_in}
use Rattle.rpki_folder.specs.NameTables.{ArePlacesUnder, IsOfKey}
use Rattle.rpki_folder.proofs.Descent.{if_ok, ok_if}
use Rattle.rpki_folder.proofs.NamedSteps.{named_under}
use Rattle.rpki_folder.proofs.walk.Walk.named_places.Goals as goal

-- those of the issuer's name
pub returns-in-Some : goal.returns-in-Some
returns-in-Some g c =
    let w = c.args.self.now in
    let verifies = g.V.Verifier.verifies w.verifier.now in
    let folder = w.folder.now in
    let issuer = c.args.issuer.now.cert in
    let kept = c.in-Some.kept.now in
    let of : IsOfKey verifies folder issuer kept = rw c.in-Some.is at c.requires.key in
    let name : c.subject-name.result.now ≡ issuer.fields.subject = c.subject-name.ensures ∙
    ap (λ (f : TbsFields). f.subject) c.as_tbs.ensures ∙ ap (λ (d : CertFields). d.fields.subject)
    c.as_cert.ensures in
    let under = named_under verifies folder issuer kept of in
    ok_if (λ those. ArePlacesUnder w.names issuer folder.certs those.now) c.named.result (λ those is.
    let here : those.now ≡ places_in kept.certs.places c.subject-name.result.now =
    if_ok (λ t. t.now ≡ places_in kept.certs.places c.subject-name.result.now) c.named.result those is
    c.named.ensures in
    let all : those.now ≡ places_in kept.certs.places issuer.fields.subject =
    here ∙ ap (λ (n : List ℕ). places_in kept.certs.places n) name in
    subst (λ (b : Bool). ArePlacesUnder b issuer folder.certs those.now) (sym c.if-self.true)
    (subst (λ (l : List ℕ). ArePlacesUnder true issuer folder.certs l) (sym all) under))
