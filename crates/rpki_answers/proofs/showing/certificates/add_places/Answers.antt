use Rattle.std.proofs.Common.{append_assoc}
use Rattle.rpki_document.proofs.Built.{ended_with}
use Rattle.rpki_answers.proofs.showing.certificates.add_places.Goals as goal

pub returns : goal.returns
returns c =
    ended_with c.add_https.result _ _ _ c.add_https.ensures
    (rw (
      c.rpki_notify-notify.ensures,
      c.in_ok-add_uri-5.ensures,
      c.signed_object-object.ensures,
      c.in_ok-add_uri-4.ensures,
      c.rpki_manifest.ensures,
      c.in_ok-add_uri-3.ensures,
      c.ca_repository-repository.ensures,
      c.in_ok-add_uri-2.ensures,
      c.crl_uri-crl.ensures,
      c.in_ok-add_uri.ensures,
      c.ca_issuer-issuer.ensures,
    ) (simp append_assoc))
