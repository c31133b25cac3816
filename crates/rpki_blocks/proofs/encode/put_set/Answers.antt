use Rattle.std.proofs.Common.{rules}
use Rattle.rpki_der.specs.Tags.{SEQUENCE}
use Rattle.rpki_der.proofs.ValueWritten.{enc_longer}
use Rattle.rpki_blocks.proofs.Enclosing.{enclosed_long}
use Rattle.rpki_blocks.proofs.Lengths.{passed_long}
use Rattle.rpki_blocks.proofs.encode.put_set.Goals as goal

pub returns-in_err-put_elements-clause-too_long : goal.returns-in_err-put_elements-clause-too_long
returns-in_err-put_elements-clause-too_long g c = passed_long c.from_residual.result _ _ _ c.from_residual.ensures.1
    c.in_err-put_elements.ensures.too_long (enc_longer SEQUENCE _)

pub returns-clause-too_long : goal.returns-clause-too_long
returns-clause-too_long g c = enclosed_long c.enclose.result SEQUENCE c.len-start.result c.args.out.now.items
    _ _ c.enclose.ensures.too_long.0 (search rules) c.in_ok-put_elements.ensures.ok
