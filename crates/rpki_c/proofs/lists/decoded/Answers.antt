use Rattle.rpki_c.specs.Verdicts.{BeginsNoList}
use Rattle.rpki_c.proofs.Unread.{unless_memory}
use Rattle.rpki_c.proofs.lists.decoded.Goals as goal

pub returns-in-Err-clause-unread : goal.returns-in-Err-clause-unread
returns-in-Err-clause-unread c = λ other. unless_memory (BeginsNoList c.args.octets.now) c.in-Err.error
    c.in-Err.ensures.means (λ is. other (c.of_decoding-fault.ensures.memory.1 is))
