use Rattle.std.specs.Prelude.{None}
use Rattle.std.proofs.Common.{take}
use Rattle.rpki_files.specs.FileSorts.{IsFirstHaving, IsOfSort, every_sort}
use Rattle.rpki_files.proofs.sorts.sort_of.Given as goal

-- they are of none of the sorts so far
abbrev pub invariant-loop-sort : goal.invariant-loop-sort
invariant-loop-sort l = IsFirstHaving (λ s. IsOfSort s l.octets) (take l.sort-index every_sort) None
