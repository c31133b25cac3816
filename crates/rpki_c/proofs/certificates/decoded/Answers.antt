use Rattle.rpki_folder.specs.Folders.{BeginsNoCertificate}
use Rattle.rpki_c.proofs.Unread.{unless_memory}
use Rattle.rpki_c.proofs.certificates.decoded.Goals as goal

pub returns-in-Err-clause-unread : goal.returns-in-Err-clause-unread
returns-in-Err-clause-unread c = λ other. unless_memory (BeginsNoCertificate c.args.octets.now) c.in-Err.error
    c.in-Err.ensures (λ is. other (c.of_decoding-fault.ensures.memory.1 is))
