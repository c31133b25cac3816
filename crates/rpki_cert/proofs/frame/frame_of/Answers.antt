use Rattle.std.proofs.Common.{rules, ◌≡◌, Err}
use Rattle.rpki_cert.specs.RearrangeErrors.{of_reading}
use Rattle.rpki_cert.proofs.FrameReads.{rejected_from}
use Rattle.rpki_cert.proofs.frame.frame_of.Goals as goal

pub returns-in_err-certificate_frame-clause-rejected : goal.returns-in_err-certificate_frame-clause-rejected
returns-in_err-certificate_frame-clause-rejected c =
    let same : c.from_residual-in_err-certificate_frame.result ≡ Err (of_reading c.in_err-certificate_frame.field-0.0) = search rules in
    rejected_from c.args.octets.now _ _ c.in_err-certificate_frame.field-0.0 same c.in_err-certificate_frame.ensures.rejected (search rules)
