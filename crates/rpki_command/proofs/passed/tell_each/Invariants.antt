use Rattle.std.specs.Io.KnownBytes.{Appends}
use Rattle.std.proofs.Common.{List, ℕ, take}
use Rattle.rpki_command.specs.PassedFiles.{SaysIfPassed}
use Rattle.rpki_answers.specs.VerdictTexts.{SaysOfEach}
use Rattle.rpki_command.proofs.passed.tell_each.Given as goal

abbrev pub invariant-loop-file : goal.invariant-loop-file
invariant-loop-file g l =
    (said : List ℕ) × SaysOfEach SaysIfPassed (take l.file-index l.files) said
    × Appends (g.E.Write.contents l.initial.err) (g.E.Write.contents l.err) said
