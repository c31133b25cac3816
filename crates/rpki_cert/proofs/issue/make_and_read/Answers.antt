use Rattle.std.specs.Prelude.{Ok}
use Rattle.std.proofs.Common.{◌≡◌, sym, ap, subst, ◌∙◌}
use Rattle.rpki_der.specs.Values.{AreOctets}
use Rattle.rpki_parts.specs.Signatures.{SignatureFields}
use Rattle.rpki_parts.specs.SignedDatas.{SignedFields}
use Rattle.rpki_cert.specs.Certificates.{CertFields, encoding}
use Rattle.rpki_cert.proofs.ReadAgain.{if_ok, if_ok_both, if_err, fields_again, made_of, not_made}
use Rattle.rpki_cert.proofs.issue.make_and_read.Goals as goal

pub returns-in-Ok-clause-read : goal.returns-in-Ok-clause-read
returns-in-Ok-clause-read g c = c.read_again-cert.ensures.read

pub returns-in-Ok-clause-message : goal.returns-in-Ok-clause-message
returns-in-Ok-clause-message g c = if_ok c.read_again-cert.result _ _ (λ x h. h c.args.tbs c.in-Ok.ensures.message)
    c.read_again-cert.ensures.message

pub returns-in-Ok-clause-written : goal.returns-in-Ok-clause-written
returns-in-Ok-clause-written g c =
    let message = if_ok c.read_again-cert.result _ (λ (x : CertFields). x.signed_data.message ≡ encoding c.args.tbs)
    (λ x h. h c.args.tbs c.in-Ok.ensures.message) c.read_again-cert.ensures.message in
    if_ok c.read_again-cert.result _ _ (λ x h. h.0)
    (fields_again c.read_again-cert.result c.args.tbs c.in-Ok.ensures.written c.read_again-cert.ensures.read
    message)

pub returns-in-Ok-clause-fields : goal.returns-in-Ok-clause-fields
returns-in-Ok-clause-fields g c =
    let message = if_ok c.read_again-cert.result _ (λ (x : CertFields). x.signed_data.message ≡ encoding c.args.tbs)
    (λ x h. h c.args.tbs c.in-Ok.ensures.message) c.read_again-cert.ensures.message in
    if_ok c.read_again-cert.result _ _ (λ x h. h.1)
    (fields_again c.read_again-cert.result c.args.tbs c.in-Ok.ensures.written c.read_again-cert.ensures.read
    message)

pub returns-in-Ok-clause-signed : goal.returns-in-Ok-clause-signed
returns-in-Ok-clause-signed g c =
    let octets : AreOctets c.in-Ok.made.signed_data.signature.value =
    subst (λ (s : SignatureFields). AreOctets s.value)
    (c.signature.ensures ∙ ap (λ (d : SignedFields). d.signature) c.signed_data.ensures)
    c.value-signature.ensures.octets in
    let Signs : CertFields → Type 0 = λ d. g.S.Signer.signs c.args.signer.now c.args.key.now c.args.tbs.algorithm
    (encoding c.args.tbs) (Ok d.signed_data.signature) in
    let message = if_ok c.read_again-cert.result _ (λ (x : CertFields). x.signed_data.message ≡ encoding c.args.tbs)
    (λ x h. h c.args.tbs c.in-Ok.ensures.message) c.read_again-cert.ensures.message in
    if_ok_both c.read_again-cert.result _ _ Signs
    (λ x h same. subst Signs
    (sym (same (made_of c.args.tbs c.in-Ok.made c.in-Ok.ensures.fields c.in-Ok.ensures.message octets
    c.in-Ok.ensures.fits h.0))) c.in-Ok.ensures.signed)
    (fields_again c.read_again-cert.result c.args.tbs c.in-Ok.ensures.written c.read_again-cert.ensures.read message)
    c.read_again-cert.ensures.same

pub returns-in-Ok-clause-rejected : goal.returns-in-Ok-clause-rejected
returns-in-Ok-clause-rejected g c =
    let answers = g.S.Signer.signs c.args.signer.now c.args.key.now c.args.tbs.algorithm (encoding c.args.tbs) in
    if_err c.read_again-cert.result
    _ _ (λ e h. not_made c.args.tbs answers c.in-Ok.made.signed_data e
    (record {
      message_is = c.in-Ok.ensures.message;
      signed = c.in-Ok.ensures.signed;
      short =
          c.in-Ok.ensures.fits;
    }) h) c.read_again-cert.ensures.rejected

pub returns-in-Ok-clause-readable : goal.returns-in-Ok-clause-readable
returns-in-Ok-clause-readable g c can =
    let octets : AreOctets c.in-Ok.made.signed_data.signature.value =
    subst (λ (s : SignatureFields). AreOctets s.value)
    (c.signature.ensures ∙ ap (λ (d : SignedFields). d.signature) c.signed_data.ensures)
    c.value-signature.ensures.octets in
    c.read_again-cert.ensures.readable
    (made_of c.args.tbs c.in-Ok.made c.in-Ok.ensures.fields c.in-Ok.ensures.message octets c.in-Ok.ensures.fits
    can)
