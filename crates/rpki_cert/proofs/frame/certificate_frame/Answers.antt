use Rattle.std.proofs.Common.{rules, ◌≡◌, Err}
use Rattle.rpki_cert.proofs.FrameReads.{rejection_passed_on, parts_ok, parts_rejected}
use Rattle.rpki_cert.proofs.frame.certificate_frame.Goals as goal

pub returns-in_err-cert-clause-rejected : goal.returns-in_err-cert-clause-rejected
returns-in_err-cert-clause-rejected c =
    let same : c.from_residual-in_err-cert.result ≡ Err c.in_err-cert.field-0.0 = search rules in
    rejection_passed_on c.args.octets.now _ _ _ same c.in_err-cert.ensures (search rules)

pub returns-clause-ok : goal.returns-clause-ok
returns-clause-ok c = parts_ok c.args.octets.now _ c.in_ok-cert.cert c.in_ok-cert.ensures (search rules) c.read.result c.read.ensures

pub returns-clause-rejected : goal.returns-clause-rejected
returns-clause-rejected c = parts_rejected c.args.octets.now _ c.in_ok-cert.cert c.in_ok-cert.ensures (search rules)
    c.read.result c.read.ensures
