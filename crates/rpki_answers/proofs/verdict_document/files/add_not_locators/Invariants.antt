use Rattle.std.proofs.Common.{take}
use Rattle.rpki_document.specs.Building.{Adds}
use Rattle.rpki_answers.specs.Verdicts.{not_locators}
use Rattle.rpki_answers.proofs.verdict_document.files.add_not_locators.Given as goal

abbrev pub invariant-loop-locator : goal.invariant-loop-locator
invariant-loop-locator l = Adds (not_locators (take l.locator-index l.locators)) l.fn.parts.items l.parts.items
