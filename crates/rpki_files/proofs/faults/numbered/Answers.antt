use Rattle.std.proofs.Common.{◌==◌, find, option_copied, ap, ◌∙◌}
use Rattle.rpki_files.specs.FaultTable.{FaultFields, table_of}
use Rattle.rpki_files.specs.declared.faults.FaultKind.{FaultKind}
use Rattle.rpki_files.proofs.FaultTables.{found_fault}
use Rattle.rpki_files.proofs.faults.numbered.Goals as goal

pub returns : goal.returns
returns c =
    let has_number : FaultFields → _ = λ it. it.number == c.args.number in
    found_fault c.faults_of.result.now (table_of c.kind_of.result) c.faults_of.ensures has_number
    (option_copied c.fault_in.result) c.fault_in.ensures
    ∙ ap (λ (of : FaultKind). find has_number (table_of of)) c.kind_of.ensures
