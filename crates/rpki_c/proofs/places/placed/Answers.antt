use Rattle.rpki_c.proofs.FaultTables.{memory_is_reading}
use Rattle.rpki_c.proofs.places.placed.Goals as goal

pub returns-in_default-clause-code : goal.returns-in_default-clause-code
returns-in_default-clause-code c = memory_is_reading
