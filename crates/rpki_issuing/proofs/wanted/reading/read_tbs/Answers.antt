use Rattle.std.proofs.Common.{sym, ◌∙◌}
use Rattle.std.proofs.lemmas.Bool.{false≢true}
use Rattle.rpki_cert.specs.Certificates.{IsTbsCertificate}
use Rattle.rpki_der.specs.Place.{remaining}
use Rattle.rpki_issuing.proofs.WholeOctets.{none_whole, unread_whole, whole_is}
use Rattle.rpki_issuing.proofs.wanted.reading.read_tbs.Goals as goal

pub returns-then-is_empty : goal.returns-then-is_empty
returns-then-is_empty c =
    whole_is IsTbsCertificate c.in-Ok.tbs (remaining c.new-cursor.result) c.args.octets.now
    (remaining c.from_constructed.new.cursor) c.new-cursor.ensures.all
    (c.is_empty.ensures.0 c.if-is_empty.true) c.in-Ok.ensures.encoded

pub returns-else-is_empty : goal.returns-else-is_empty
returns-else-is_empty c = λ w h.
    none_whole IsTbsCertificate c.unambiguous.ensures.data c.in-Ok.tbs w (remaining c.new-cursor.result)
    c.args.octets.now (remaining c.from_constructed.new.cursor) c.new-cursor.ensures.all
    (λ nil. false≢true (sym c.if-is_empty.false ∙ c.is_empty.ensures.1 nil)) c.in-Ok.ensures.encoded h

pub returns-else-is_memory : goal.returns-else-is_memory
returns-else-is_memory c = λ w h.
    unread_whole IsTbsCertificate c.in-Err.error
    (λ same. false≢true (sym c.if-is_memory.false ∙ c.is_memory-is_memory.ensures.1 same))
    (remaining c.new-cursor.result) c.args.octets.now c.new-cursor.ensures.all c.in-Err.ensures.encoded w h
