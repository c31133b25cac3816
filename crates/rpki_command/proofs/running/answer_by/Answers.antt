use Rattle.std.proofs.Common.{[], refl}
use Rattle.rpki_command.proofs.WrittenTexts.{appends_none}
use Rattle.rpki_command.proofs.running.answer_by.Goals as goal

pub returns-in_default-clause-answer : goal.returns-in_default-clause-answer
returns-in_default-clause-answer g c = (
  [],
  [],
  rw c.in_default.is (refl, refl, refl),
  appends_none (g.O.Write.contents c.args.out.now),
  appends_none (g.E.Write.contents c.args.err.now),
)
