use Rattle.std.proofs.Common.{◌≡◌, take}
use Rattle.rpki_c.specs.FolderFates.{AreSortedIn}
use Rattle.rpki_c.proofs.sorting.Sorted.add_all.Given as goal

abbrev pub invariant-loop-octets : goal.invariant-loop-octets
invariant-loop-octets l = record {
  sorted : AreSortedIn (take l.octets-index l.strings) l.self;
  strings_are : l.self.strings.now ≡ l.fn.self.strings.now;
}
