use Rattle.rpki_document.proofs.Built.{one_ended}
use Rattle.std.proofs.Common.{inl, inr, refl}
use Rattle.rpki_answers.specs.Verdicts.{IsCertificateNode, certificate_node, other_node}
use Rattle.rpki_answers.proofs.verdict_document.files.add_certificate.Goals as goal

pub returns-in-Some : goal.returns-in-Some
returns-in-Some c =
    let file = c.args.object.now in
    let cert = c.in-Some.cert.now in
    let begins = rw c.in-Some.is at c.certificate.ensures in
    let kind = c.kind_of-kind.result in
    one_ended c.add_known.result (IsCertificateNode c.args.strict c.args.index file)
    (certificate_node c.args.index kind cert.fields.serial file.name) c.args.parts.now.items c.add_known.new.parts.items
    (inl (record { cert = cert; begins = (begins.0, begins.1); kind = kind; kind_is = c.kind_of-kind.ensures; node_is = refl }))
    (rw (c.serial_number-serial.ensures, c.as_tbs.ensures, c.name.ensures) at c.add_known.ensures)

pub returns-in-None : goal.returns-in-None
returns-in-None c =
    let file = c.args.object.now in
    one_ended c.add_other.result (IsCertificateNode c.args.strict c.args.index file)
    (other_node c.args.index file.name) c.args.parts.now.items c.add_other.new.parts.items
    (inr (record { none = rw c.in-None.is at c.certificate.ensures; node_is = refl }))
    (rw c.name-in-None.ensures at c.add_other.ensures)
