use Rattle.std.specs.Prelude.{fold}
use Rattle.std.proofs.Common.{◌≡◌, take}
use Rattle.rpki_folder.specs.LimitTables.{both_reached, nothing}
use Rattle.rpki_verdicts.specs.UnseenCertificates.{reached_by}
use Rattle.rpki_verdicts.proofs.parts.Trees.limit_at.Given as goal

-- the limits of the parts so far
abbrev pub invariant-loop-part : goal.invariant-loop-part
invariant-loop-part l =
    l.reached ≡ fold (λ reached part. both_reached reached (reached_by l.place part.answer)) nothing (take l.part-index l.self.parts.items)
