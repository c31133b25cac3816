use Rattle.rpki_c.proofs.certificates.rpki_certificate_addresses.Goals as goal

pub returns-in-Err-clause-unread : goal.returns-in-Err-clause-unread
returns-in-Err-clause-unread c = λ none memory bad. c.in-Err.ensures.unread memory
