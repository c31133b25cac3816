use Rattle.std.proofs.Common.{length, ap, arith}
use Rattle.std.proofs.lemmas.List.{length-append}
use Rattle.rpki_der.specs.Tags.{SEQUENCE}
use Rattle.rpki_der.specs.Values.{enc}
use Rattle.rpki_der.proofs.TooLong.{passed_long}
use Rattle.rpki_der.proofs.ValueWritten.{enc_longer}
use Rattle.rpki_cert.specs.Rearranging.{tbs_content_with}
use Rattle.rpki_cert.proofs.frame.Frame.content.Goals as goal

pub returns-in_err-content-clause-too_long : goal.returns-in_err-content-clause-too_long
returns-in_err-content-clause-too_long c =
    let tbs = tbs_content_with c.args.elements.now c.args.self.now in
    passed_long c.from_residual.result _ _ _ c.from_residual.ensures.1 c.in_err-content.ensures.too_long
    (omega (arith, enc_longer SEQUENCE tbs, length-append (enc SEQUENCE tbs) c.args.self.now.behind))

pub returns-in_err-enclose-clause-too_long : goal.returns-in_err-enclose-clause-too_long
returns-in_err-enclose-clause-too_long c =
    let tbs = tbs_content_with c.args.elements.now c.args.self.now in
    passed_long c.from_residual-in_err-enclose.result _ _ _ c.from_residual-in_err-enclose.ensures.1
    c.in_err-enclose.ensures.too_long.0
    (omega (
      arith,
      ap length c.in_ok-content.ensures.ok,
      enc_longer SEQUENCE tbs,
      length-append (enc SEQUENCE tbs) c.args.self.now.behind,
    ))
