use Rattle.rpki_document.proofs.Built.{ended_some}
use Rattle.std.specs.Prelude.{Some}
use Rattle.std.proofs.Common.{refl}
use Rattle.rpki_answers.specs.Verdicts.{IsTal, read_tal}
use Rattle.rpki_answers.proofs.verdict_document.accepted.add_located.Goals as goal

pub returns-in-Some : goal.returns-in-Some
returns-in-Some c =
    let l = c.in-Some.locator.now in
    ended_some c.add_read_tal.result (IsTal c.args.question.now) (read_tal l.file.name l.read) c.args.parts.now.items
    c.add_read_tal.new.parts.items (Some l, c.in-Some.ensures, refl) c.add_read_tal.ensures
