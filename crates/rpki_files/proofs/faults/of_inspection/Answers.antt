use Rattle.std.proofs.Common.{◌/◌, ap, ◌∙◌}
use Rattle.rpki_files.specs.FaultTable.{FaultFields, fault_named}
use Rattle.rpki_files.specs.declared.faults.FaultKind.TheVariants as kind
use Rattle.rpki_files.proofs.FaultTables.{inspections}
use Rattle.rpki_files.proofs.faults.of_inspection.Goals as goal

pub returns-clause-hundreds : goal.returns-clause-hundreds
returns-clause-hundreds c =
    ap (λ (it : FaultFields). it.number / 100) (c.named.ensures ∙ ap (fault_named kind.Inspection) c.name.ensures)
    ∙ (inspections c.args.error).0
