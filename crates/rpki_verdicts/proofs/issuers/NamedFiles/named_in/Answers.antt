use Rattle.std.proofs.Common.{◌∙◌, ap, inl}
use Rattle.std.proofs.lemmas.Result.{IfOk-weaker}
use Rattle.rpki_cert.specs.Certificates.{IsCertificate, TbsFields}
use Rattle.rpki_der.specs.Encoding.{Means}
use Rattle.rpki_verdicts.specs.ShownPaths.{place_of}
use Rattle.rpki_verdicts.proofs.issuers.NamedFiles.named_in.Goals as goal

pub returns : goal.returns
returns c = λ certs are.
    let cert = c.in-Some.cert in
    let means : Means IsCertificate cert c.args.file.now.octets = rw c.in-Some.is at c.in_ok-cert.ensures in
    let uri = c.ca_issuer.ensures ∙ ap (λ (f : TbsFields). f.extensions.ca_issuer) c.as_tbs.ensures in
    IfOk-weaker c.place_of-named.result _ _ (λ named is. inl (cert, means, is ∙ ap (place_of certs) uri))
    (c.place_of-named.ensures certs are)
