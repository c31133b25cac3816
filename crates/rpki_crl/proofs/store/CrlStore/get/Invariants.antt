use Rattle.std.proofs.Common.{take}
use Rattle.std.specs.List.{AllByRecursion}
use Rattle.rpki_crl.specs.Stores.{IsUnder}
use Rattle.rpki_crl.proofs.store.CrlStore.get.Given as goal

abbrev pub invariant-loop-under : goal.invariant-loop-under
invariant-loop-under l = AllByRecursion (λ pair. IsUnder l.uri pair → ⊥) (take l.under-index l.self.pairs)
