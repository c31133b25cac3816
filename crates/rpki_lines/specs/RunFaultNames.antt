-- The names of a run's faults.
use Rattle.std.specs.Prelude.{ℕ, List, codes}
use Rattle.rpki_lines.specs.declared.running.RunFault.{RunFault}
use Rattle.rpki_lines.specs.declared.running.RunFault.TheVariants.{Read, Write, Memory, TooLong}

-- the name of the fault
abbrev pub run_fault_name : RunFault → List ℕ
run_fault_name Read = codes "Read"
run_fault_name Write = codes "Write"
run_fault_name Memory = codes "Memory"
run_fault_name TooLong = codes "TooLong"
