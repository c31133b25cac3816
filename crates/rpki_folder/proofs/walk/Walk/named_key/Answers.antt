use Rattle.std.proofs.Common.{◌≡◌, sym, subst, ◌∙◌}
use Rattle.rpki_cert.specs.Certificates.{CertFields}
use Rattle.rpki_folder.specs.NameTables.{AreByIssuer, IsOfKey}
use Rattle.rpki_folder.specs.declared.issuers.NamedKey.{NamedKey}
use Rattle.rpki_folder.specs.declared.names.NameTable.{NameTable}
use Rattle.rpki_folder.proofs.walk.Walk.named_key.Goals as goal

pub by_issuer-requires : goal.by_issuer-requires
by_issuer-requires g c = c.requires.inside

pub returns : goal.returns
returns g c =
    let w = c.args.self.now in
    let verifies = g.V.Verifier.verifies w.verifier.now in
    let folder = w.folder.now in
    let issuer = c.args.issuer.now.cert in
    let places = c.args.places.now in
    let step = c.in_ok-certs-2.ensures.ok in
    let one : NamedKey = record {
      cert = c.in_ok-certs-2.cert;
      certs = c.in_ok-certs-2.certs;
      has_signed =
          c.has_signed-has_signed.result;
    } in
    let copy : one.cert ≡ c.as_cert.result.now = rw step.1 at c.try_clone.ensures in
    let same : one.cert ≡ issuer = copy ∙ c.as_cert.ensures in
    let kept : IsOfKey verifies folder issuer one = record {
      places = places;
      are_places = c.requires;
      by_issuer = subst (λ (t : NameTable). AreByIssuer folder.certs places t) (sym step.0) c.in_ok-certs.ensures;
      signed = rw c.lists.ensures at c.has_signed-has_signed.ensures;
    } in
    subst (λ (d : CertFields). IsOfKey verifies folder d one) (sym same) kept
