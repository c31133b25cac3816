use Rattle.std.proofs.Common.{ap, ◌∙◌, subst, sym}
use Rattle.rpki_files.specs.FaultTable.{FaultFields, fault_named}
use Rattle.rpki_files.specs.declared.faults.FaultKind.TheVariants as kind
use Rattle.rpki_files.proofs.FaultTables.{IsReadingNumber, reading_numbers}
use Rattle.rpki_files.proofs.faults.of_reading.Goals as goal

pub returns : goal.returns
returns c =
    let is = c.named.ensures ∙ ap (fault_named kind.Reading) c.name.ensures in
    let number = subst (λ (it : FaultFields). IsReadingNumber c.args.error.now it.number) (sym is) (reading_numbers c.args.error.now) in
    record { fault = is; memory = number.memory; great = number.great; small = number.small }
