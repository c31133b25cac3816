use Rattle.std.proofs.Common.{◌++◌, List, ℕ, sym, subst, take}
use Rattle.rpki_files.specs.Files.{FileFields}
use Rattle.rpki_command.specs.PassedFiles.{SaysIfPassed}
use Rattle.rpki_answers.specs.VerdictTexts.{SaysOfEach}
use Rattle.rpki_command.proofs.ListsAmong.{gone_over}
use Rattle.rpki_command.proofs.PassedFiles.{more_said}
use Rattle.rpki_command.proofs.WrittenTexts.{appends_both}
use Rattle.rpki_command.proofs.passed.tell_each.Goals as goal

pub loop-file-preserved : goal.loop-file-preserved
loop-file-preserved g c =
    let contents = g.E.Write.contents in
    let files = c.args.files.now in
    let i = c.loop-file.file-index in
    let file = c.file-item.result in
    let (said, so_far, appended) = c.loop-file.invariant in
    let (its, one, further) = c.in_ok-tell_if_passed.ensures in (
      said ++ its,
      subst (λ (l : List FileFields). SaysOfEach SaysIfPassed l (said ++ its))
          (sym (gone_over files i file c.loop-file-test.true c.file-item.is))
          (more_said SaysIfPassed file its one (take i files) said so_far),
      appends_both (contents c.args.err.now) (contents c.loop-file.err) (contents c.tell_if_passed.new.err) said its appended further,
    )
