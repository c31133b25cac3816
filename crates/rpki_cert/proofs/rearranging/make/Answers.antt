use Rattle.std.proofs.Common.{rules, ◌≡◌}
use Rattle.std.specs.List.{concat}
use Rattle.rpki_der.proofs.TooLong.{passed_long}
use Rattle.rpki_cert.specs.Rearranging.{content_with, new_extensions}
use Rattle.rpki_cert.proofs.SequencesBuilt.{elements_longer}
use Rattle.rpki_cert.proofs.rearranging.make.Goals as goal

pub returns-in_err-elements-clause-too_long : goal.returns-in_err-elements-clause-too_long
returns-in_err-elements-clause-too_long c =
    let same : c.deref.result.now ≡ c.args.frame.now.old = search rules in
    let old = concat (new_extensions c.args.order.now c.args.extras.now c.deref.result.now) in
    let elements = concat (new_extensions c.args.order.now c.args.extras.now c.args.frame.now.old) in
    passed_long c.from_residual.result _ old (content_with elements c.args.frame.now) c.from_residual.ensures.1
    c.in_err-elements.ensures.too_long (rw same (elements_longer elements c.args.frame.now))
