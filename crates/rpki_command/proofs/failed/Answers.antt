use Rattle.std.proofs.Common.{codes}
use Rattle.rpki_command.proofs.WrittenTexts.{tells_failure}
use Rattle.rpki_command.proofs.failed.Goals.{in-Ok, in-Err}
use Rattle.rpki_command.proofs.failed.Goals as goal

pub returns-clause-told : goal.returns-clause-told
returns-clause-told g c =
    let contents = g.E.Write.contents in
    elim c.match-format.branch [
      | in-Ok w ↦ rw w.err-is
          (tells_failure contents c.args.err.now.watched w.tell_failure.new.self.watched w.deref.result.now
          w.tell_failure.ensures)
      | in-Err w ↦ rw w.err-is
          (tells_failure contents c.args.err.now.watched w.tell_failure-in-Err.new.self.watched
          (codes "out of memory") w.tell_failure-in-Err.ensures)
    ]
