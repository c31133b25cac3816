use Rattle.std.proofs.Common.{◌≡◌, length, rules}
use Rattle.rpki_der.specs.Tags.{SEQUENCE}
use Rattle.rpki_der.proofs.Ending.{enclosed_long}
use Rattle.rpki_der.proofs.TooLong.{passed_long}
use Rattle.rpki_der.proofs.ValueWritten.{enc_longer}
use Rattle.rpki_ext.proofs.subject_access.append_content.Goals as goal

pub returns-in_err-append_descriptions-clause-too_long : goal.returns-in_err-append_descriptions-clause-too_long
returns-in_err-append_descriptions-clause-too_long c =
    passed_long c.from_residual.result _ _ _ c.from_residual.ensures.1 c.in_err-append_descriptions.ensures.too_long
    (enc_longer SEQUENCE _)

pub returns-clause-too_long : goal.returns-clause-too_long
returns-clause-too_long c =
    let start : c.len-start.result ≡ length c.args.out.now.items = search rules in
    enclosed_long c.enclose.result _ c.args.out.now.items _ _ _ c.enclose.ensures.too_long.0 start
    c.in_ok-append_descriptions.ensures.ok (enc_longer SEQUENCE _)
