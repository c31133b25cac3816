use Rattle.std.proofs.Common.{◌≡◌, List, ℕ, subst}
use Rattle.rpki_der.proofs.Formats.{one_meant}
use Rattle.rpki_ext.specs.Kinds.{Means}
use Rattle.rpki_cert.specs.Certificates.{CertFields, IsCertificate}
use Rattle.rpki_path.specs.Repeats.{AreOneEntity}
use Rattle.rpki_folder.specs.Folders.{string_at}
use Rattle.rpki_folder.specs.Walks.{StandsAt}
use Rattle.rpki_folder.proofs.StepAnswers.{octets_here}
use Rattle.rpki_folder.proofs.walk.Walk.is_one_at.Goals as goal

pub returns : goal.returns
returns g c =
    let w = c.args.self.now in
    let certs = w.folder.now.certs in
    let place = c.args.place in
    let here : c.index-certs-place.result ≡ string_at certs place = octets_here certs c.certs.result.now place
    c.index-certs-place.result c.certs.ensures c.index-certs-place.is c.requires in
    let stands : StandsAt certs place c.in_ok-other.other =
    subst (λ (o : List ℕ). Means IsCertificate c.in_ok-other.other o) here c.in_ok-other.ensures in (
      (λ yes. (c.in_ok-other.other, stands, c.are_one_entity-is_one.ensures.0 yes)),
      (λ there. c.are_one_entity-is_one.ensures.1 (subst (λ (d : CertFields). AreOneEntity w.names d c.args.cert.now)
          (one_meant IsCertificate c.unambiguous.ensures.certificate there.0 c.in_ok-other.other
          (string_at certs place) there.1 stands) there.2)),
    )
