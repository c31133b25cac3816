use Rattle.std.proofs.Common.{◌≡◌, [], take}
use Rattle.rpki_verdicts.specs.TreeParts.{wrong_of}
use Rattle.rpki_verdicts.proofs.search.first_among.Given as goal

-- none so far is wrong
abbrev pub invariant-loop-part : goal.invariant-loop-part
invariant-loop-part l = wrong_of (take l.part-index l.parts) ≡ []
