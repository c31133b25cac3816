use Rattle.std.proofs.Common.{◌≡◌, ◌≢◌, ◌/◌, ap, ◌∙◌, subst, sym}
use Rattle.rpki_files.specs.FaultTable.{FaultFields, fault_named}
use Rattle.rpki_files.specs.declared.faults.FaultKind.TheVariants as kind
use Rattle.rpki_files.proofs.FaultTables.{verifications}
use Rattle.rpki_files.proofs.faults.of_verification.Goals as goal

pub returns-clause-hundreds : goal.returns-clause-hundreds
returns-clause-hundreds c =
    let is = c.named.ensures ∙ ap (fault_named kind.Verification) c.name.ensures in
    subst (λ (it : FaultFields). it.number ≢ 1 → (it.number / 100) ≡ 4) (sym is) (verifications c.args.error.now).0
