use Rattle.std.specs.Prelude.{None}
use Rattle.std.proofs.Common.{List, get_or, take, subst, sym, ◌∙◌}
use Rattle.std.proofs.lemmas.Bool.{false≢true}
use Rattle.std.proofs.lemmas.List.{take_all, take_more}
use Rattle.rpki_files.specs.FileSorts.{IsFirstHaving, IsOfSort, IsSortOf, every_sort}
use Rattle.rpki_files.specs.declared.sorts.Sort.{Sort}
use Rattle.rpki_files.specs.declared.sorts.Sort.TheVariants.{Empty}
use Rattle.rpki_files.proofs.Turns.{found_at, still_none}
use Rattle.rpki_files.proofs.sorts.sort_of.Goals as goal

pub returns-then-is_one : goal.returns-then-is_one
unfolding IsSortOf
returns-then-is_one c =
    let octets = c.args.octets.now in
    found_at (λ s. IsOfSort s octets) every_sort c.loop-sort.sort-index Empty c.loop-sort-test.true
    c.loop-sort.invariant (c.in_ok-is_one.ensures.0 c.if-is_one.true)

pub loop-sort-preserved : goal.loop-sort-preserved
loop-sort-preserved c =
    let octets = c.args.octets.now in
    let index = c.loop-sort.sort-index in
    let here = get_or every_sort index Empty in
    let not = λ (is : IsOfSort here octets). false≢true (sym c.if-is_one.false ∙ c.in_ok-is_one.ensures.1 is) in
    let none = still_none (λ s. IsOfSort s octets) (take index every_sort) here c.loop-sort.invariant not in
    subst (λ (sorts : List Sort). IsFirstHaving (λ s. IsOfSort s octets) sorts None)
    (sym (take_more every_sort index Empty c.loop-sort-test.true)) none

pub returns : goal.returns
unfolding IsSortOf
returns c =
    let octets = c.args.octets.now in
    subst (λ (sorts : List Sort). IsFirstHaving (λ s. IsOfSort s octets) sorts None)
    (take_all c.loop-sort.sort-index every_sort c.loop-sort-test.false) c.loop-sort.invariant
