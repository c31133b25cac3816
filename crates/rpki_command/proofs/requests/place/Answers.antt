use Rattle.std.proofs.Common.{refl}
use Rattle.rpki_command.specs.Outputs.{only_said}
use Rattle.rpki_command.proofs.WrittenTexts.{appends_none, makes_none}
use Rattle.rpki_command.proofs.requests.place.Goals as goal

pub returns-in_ok-tell-in-Err-clause-ended : goal.returns-in_ok-tell-in-Err-clause-ended
returns-in_ok-tell-in-Err-clause-ended g c =
    let ended = c.silent.ensures in
    let (said, line, appended) = c.in_ok-tell-in-Err.ensures in
    let put = c.in-Err.ensures in (
      only_said said,
      rw ended.outcome (c.in-Err.file, said, put.unmade, line, refl),
      rw (ended.written, put.unwritten) (appends_none (g.O.Write.contents c.args.out.now)),
      appended,
      rw put.kept (makes_none (g.M.FileMaker.made c.args.files.now)),
    )
