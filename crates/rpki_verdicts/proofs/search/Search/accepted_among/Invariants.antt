use Rattle.std.specs.Prelude.{All}
use Rattle.std.proofs.Common.{take}
use Rattle.rpki_verdicts.specs.Searches.{DeniesFirst}
use Rattle.rpki_verdicts.proofs.search.Search.accepted_among.Given as goal

-- none so far accepts it
abbrev pub invariant-loop-part : goal.invariant-loop-part
invariant-loop-part l = All (λ part. DeniesFirst part.answer) (take l.part-index l.parts)
