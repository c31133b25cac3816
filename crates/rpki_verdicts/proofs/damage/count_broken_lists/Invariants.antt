use Rattle.std.proofs.Common.{◌≤◌, take}
use Rattle.rpki_verdicts.specs.Damage.{AreSoMany, IsBrokenList}
use Rattle.rpki_verdicts.proofs.damage.count_broken_lists.Given as goal

-- those so far are counted
abbrev pub invariant-loop-file : goal.invariant-loop-file
invariant-loop-file l = record { counted : AreSoMany IsBrokenList (take l.file-index l.files) l.count; few : l.count ≤ l.file-index }
