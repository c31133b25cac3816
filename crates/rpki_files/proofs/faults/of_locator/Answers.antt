use Rattle.std.proofs.Common.{◌≡◌, ◌≢◌, ◌/◌, ap, ◌∙◌, subst, sym}
use Rattle.rpki_files.specs.FaultTable.{FaultFields, fault_named}
use Rattle.rpki_files.specs.declared.faults.FaultKind.TheVariants as kind
use Rattle.rpki_files.proofs.FaultTables.{locators}
use Rattle.rpki_files.proofs.faults.of_locator.Goals as goal

pub returns-clause-hundreds : goal.returns-clause-hundreds
returns-clause-hundreds c =
    let is = c.named.ensures ∙ ap (fault_named kind.Locator) c.name.ensures in
    subst (λ (it : FaultFields). it.number ≢ 1 → (it.number / 100) ≡ 7) (sym is) (locators c.args.error.now).0
