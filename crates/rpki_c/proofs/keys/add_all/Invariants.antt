use Rattle.std.proofs.Common.{◌++◌, ℕ, List, take}
use Rattle.rpki_c.specs.PathKeys.{AreKeysOf}
use Rattle.rpki_c.proofs.keys.add_all.Given as goal

abbrev pub invariant-loop-member : goal.invariant-loop-member
invariant-loop-member l = (strings : List (List ℕ)) → AreKeysOf strings l.fn.keys.items →
    AreKeysOf (strings ++ take l.member-index l.members) l.keys.items
