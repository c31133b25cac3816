use Rattle.rpki_cert.proofs.DataRead.{can_be_written, fields_same}
use Rattle.rpki_cert.proofs.laws.read_is_written.Goals as goal

pub returns-clause-writable : goal.returns-clause-writable
returns-clause-writable c = can_be_written

pub returns-clause-same : goal.returns-clause-same
returns-clause-same c = fields_same
