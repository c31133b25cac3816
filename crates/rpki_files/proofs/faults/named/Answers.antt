use Rattle.std.proofs.Common.{Bor, Option, bytes_eq, option_copied, ap, ◌∙◌}
use Rattle.rpki_files.specs.FaultTable.{FaultFields, general_faults, or_no_fault, table_of}
use Rattle.rpki_files.specs.declared.faults.Fault.{Fault}
use Rattle.rpki_files.proofs.FaultTables.{found_fault, named_fault, seen}
use Rattle.rpki_files.proofs.faults.named.Goals as goal

pub returns : goal.returns
returns c =
    let has_name : FaultFields → _ = λ it. bytes_eq it.name c.args.name.now in
    let general = found_fault c.faults_of.result.now general_faults c.faults_of.ensures has_name
    (option_copied c.named_in-general.result) c.named_in-general.ensures in
    let found = found_fault c.faults_of-2.result.now (table_of c.args.kind) c.faults_of-2.ensures has_name
    (option_copied c.named_in.result) c.named_in.ensures in
    c.or_none.ensures
    ∙ ap (λ (o : Option (Bor Fault)). or_no_fault (seen o)) c.or.ensures
    ∙ named_fault c.args.kind c.args.name.now c.named_in-general.result c.named_in.result general found
