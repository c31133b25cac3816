use Rattle.std.proofs.lemmas.Bool.{false≢true}
use Rattle.rpki_der.specs.Skipping.{levels}
use Rattle.rpki_der.specs.Tags.{SEQUENCE}
use Rattle.rpki_der.proofs.Readings.{not_used_up}
use Rattle.rpki_cert.specs.Certificates.{certificate_content_format}
use Rattle.rpki_cert.proofs.cert.Cert.read.Goals as goal

pub returns-then-not-is_empty-clause-reads : goal.returns-then-not-is_empty-clause-reads
returns-then-not-is_empty-clause-reads c =
    not_used_up SEQUENCE (certificate_content_format levels).read c.fork-ahead.ensures.same
    c.in_ok-content.ensures.answers.reads c.in_ok-cert.ensures.reads
    (λ nil. false≢true (c.if-not-is_empty.ensures.1 nil))
