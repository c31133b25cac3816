use Rattle.std.specs.Prelude.{None}
use Rattle.std.proofs.Common.{◌≡◌, take}
use Rattle.rpki_verdicts.specs.TreeParts.{wrong_at}
use Rattle.rpki_verdicts.proofs.parts.wrong_among.Given as goal

-- none of those so far is wrong there
abbrev pub invariant-loop-part : goal.invariant-loop-part
invariant-loop-part l = wrong_at (take l.part-index l.parts) l.place ≡ None
