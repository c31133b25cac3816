use Rattle.rpki_cert.specs.Certificates.{IsCertificate}
use Rattle.rpki_files.proofs.FoundOctets.{found_none, found_part, found_whole}
use Rattle.rpki_requests.proofs.lists.whole_certificate.Goals as goal

pub returns-in_default : goal.returns-in_default
returns-in_default c = found_none IsCertificate c.args.file.now.octets c.in_default.ensures

pub returns-then-left-eq0 : goal.returns-then-left-eq0
returns-then-left-eq0 c =
    found_whole IsCertificate c.args.file.now.octets c.in-Some.cert.now c.in-Some.left c.in-Some.ensures
    c.if-left-eq0.true

pub returns-else-left-eq0 : goal.returns-else-left-eq0
returns-else-left-eq0 c =
    found_part IsCertificate c.unambiguous.ensures.certificate c.args.file.now.octets c.in-Some.cert.now
    c.in-Some.left c.in-Some.ensures c.if-left-eq0.false
