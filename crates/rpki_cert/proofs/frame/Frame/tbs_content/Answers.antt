use Rattle.std.proofs.Common.{arith}
use Rattle.std.proofs.lemmas.List.{length-append}
use Rattle.std.specs.List.{concat}
use Rattle.rpki_der.specs.Tags.{CONTEXT_CONSTRUCTED, SEQUENCE}
use Rattle.rpki_der.specs.Values.{enc}
use Rattle.rpki_der.proofs.TooLong.{passed_long}
use Rattle.rpki_cert.proofs.frame.Frame.tbs_content.Goals as goal

pub returns-in_err-put_sequence-clause-too_long : goal.returns-in_err-put_sequence-clause-too_long
returns-in_err-put_sequence-clause-too_long c =
    let elements = c.args.elements.now in
    passed_long c.from_residual-in_err-put_sequence.result _ _ _ c.from_residual-in_err-put_sequence.ensures.1
    c.in_err-put_sequence.ensures.too_long
    (omega (
      arith,
      length-append (concat c.args.self.now.before) (enc (CONTEXT_CONSTRUCTED 3) (enc SEQUENCE elements)),
    ))
