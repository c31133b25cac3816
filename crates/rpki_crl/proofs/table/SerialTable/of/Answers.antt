use Rattle.std.proofs.Common.{List, ℕ, sym, subst}
use Rattle.std.proofs.lemmas.List.Sorted.{IsNonDecreasingBy-from_sort}
use Rattle.rpki_crl.specs.SerialTables.{AreAscending}
use Rattle.rpki_crl.specs.SerialBuckets.{AreBuckets}
use Rattle.rpki_crl.proofs.table.SerialTable.of.Goals as goal

pub scale_of-base-requires : goal.scale_of-base-requires
scale_of-base-requires c =
    let sorted : AreAscending c.sort_unstable.new.self.items = λ i j p q. IsNonDecreasingBy-from_sort (λ x. x)
    c.sort_unstable.new.self.items c.sort_unstable.ensures.sorted i j 0 p q in
    subst AreAscending (sym c.deref.ensures.value) sorted

pub starts_of-requires-clause-ascending : goal.starts_of-requires-clause-ascending
starts_of-requires-clause-ascending c =
    let sorted : AreAscending c.sort_unstable.new.self.items = λ i j p q. IsNonDecreasingBy-from_sort (λ x. x)
    c.sort_unstable.new.self.items c.sort_unstable.ensures.sorted i j 0 p q in
    subst AreAscending (sym c.deref-2.ensures.value) sorted

pub invariant_of-result : goal.invariant_of-result
invariant_of-result c =
    let sorted : AreAscending c.sort_unstable.new.self.items = λ i j p q. IsNonDecreasingBy-from_sort (λ x. x)
    c.sort_unstable.new.self.items c.sort_unstable.ensures.sorted i j 0 p q in
    let buckets = subst (λ (xs : List ℕ). AreBuckets c.scale_of-base.result.0 c.scale_of-base.result.1
    c.in_ok-starts.starts.items xs) c.deref-2.ensures.value c.in_ok-starts.ensures.buckets in
    (sorted, buckets, c.scale_of-base.ensures.shift)
