use Rattle.rpki_c.proofs.FaultTables.{memory_is_reading}
use Rattle.rpki_c.proofs.lists.list_for.Goals as goal

pub returns-in-Err-clause-code : goal.returns-in-Err-clause-code
returns-in-Err-clause-code c = memory_is_reading
