use Rattle.rpki_c.proofs.FaultTables.{memory_is_reading}
use Rattle.rpki_c.proofs.certificates.rpki_certificate_name.Goals as goal

pub returns-in-Err-clause-unread : goal.returns-in-Err-clause-unread
returns-in-Err-clause-unread c = λ none memory bad. c.in-Err.ensures.unread memory

pub returns-in-Err-put-clause-code : goal.returns-in-Err-put-clause-code
returns-in-Err-put-clause-code c = λ none bad. memory_is_reading
