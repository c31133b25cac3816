use Rattle.std.specs.Cmp.Lexicographic.{slice_cmp}
use Rattle.std.specs.Ordering.{nat_cmp}
use Rattle.std.proofs.Common.{is_lt}
use Rattle.std.proofs.lemmas.List.Sorted.{IsPermutation-map}
use Rattle.rpki_command.proofs.ListedNames.{IsSortedBy-map}
use Rattle.rpki_command.proofs.folders.sorted.Goals as goal

pub returns-clause-permutation : goal.returns-clause-permutation
returns-clause-permutation c = IsPermutation-map (λ v. v.items) c.args.names.items c.sort_unstable.new.self.items
    c.sort_unstable.ensures.permutation

pub returns-clause-sorted : goal.returns-clause-sorted
returns-clause-sorted c =
    IsSortedBy-map (λ v. v.items) (λ x y. is_lt (slice_cmp nat_cmp x y)) c.sort_unstable.new.self.items c.sort_unstable.ensures.sorted
