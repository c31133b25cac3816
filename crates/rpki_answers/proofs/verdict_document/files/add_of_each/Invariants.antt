use Rattle.std.proofs.Common.{take}
use Rattle.rpki_document.specs.Building.{AddsSome}
use Rattle.rpki_answers.specs.VerdictTexts.{SaysOfEach}
use Rattle.rpki_answers.specs.Verdicts.{IsAbout}
use Rattle.rpki_answers.proofs.verdict_document.files.add_of_each.Given as goal

abbrev pub invariant-loop-file : goal.invariant-loop-file
invariant-loop-file l =
    AddsSome (SaysOfEach (IsAbout l.about) (take l.file-index l.files)) l.fn.parts.items l.parts.items
