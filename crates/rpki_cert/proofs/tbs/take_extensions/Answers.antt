use Rattle.std.proofs.Common.{◌≡◌, Some, refl}
use Rattle.std.proofs.lemmas.Bool.{false≢true}
use Rattle.rpki_der.specs.Place.{remaining}
use Rattle.rpki_der.specs.Skipping.{levels}
use Rattle.rpki_der.specs.Tags.{CONTEXT_CONSTRUCTED}
use Rattle.rpki_der.proofs.Readings.{not_used_up}
use Rattle.rpki_cert.specs.Certificates.{extensions_format}
use Rattle.rpki_cert.proofs.tbs.take_extensions.Goals as goal

pub returns-then-not-is_empty-clause-reads : goal.returns-then-not-is_empty-clause-reads
returns-then-not-is_empty-clause-reads c =
    let given : (extensions_format levels).read (remaining c.in_ok-tagged.tagged) ≡
    Some (c.in_ok-extensions.extensions, remaining c.take_sequence.new.self) =
    rw (c.in_ok-elements.ensures.answers.reads, c.in_ok-extensions.ensures.reads) refl in
    not_used_up (CONTEXT_CONSTRUCTED 3) (extensions_format levels).read c.fork-ahead.ensures.same
    c.in_ok-tagged.ensures.answers.reads given (λ nil. false≢true (c.if-not-is_empty.ensures.1 nil))
