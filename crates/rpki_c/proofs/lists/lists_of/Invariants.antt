use Rattle.std.proofs.Common.{◌≡◌, take}
use Rattle.std.specs.Prelude.{Contains}
use Rattle.rpki_c.specs.Verdicts.{AreListsNaming}
use Rattle.rpki_c.proofs.lists.lists_of.Given as goal

abbrev pub invariant-loop-octets : goal.invariant-loop-octets
invariant-loop-octets l = record {
  naming : AreListsNaming (Contains l.keys) (take l.octets-index l.strings) l.lists.items;
  at : l.place ≡ l.octets-index;
}
