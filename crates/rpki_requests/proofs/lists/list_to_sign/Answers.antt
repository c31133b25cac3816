use Rattle.std.proofs.Common.{sym, ◌∙◌}
use Rattle.std.proofs.lemmas.Bool.{false≢true}
use Rattle.rpki_crl.specs.Lists.{IsTbsCertList}
use Rattle.rpki_der.specs.Place.{remaining}
use Rattle.rpki_issuing.proofs.WholeOctets.{none_whole, unread_whole, whole_is, whole_only}
use Rattle.rpki_requests.proofs.lists.list_to_sign.Goals as goal

pub returns-then-is_empty : goal.returns-then-is_empty
returns-then-is_empty c =
    let is = whole_is IsTbsCertList c.in-Ok.list (remaining c.new-cursor.result) c.args.octets.now
    (remaining c.take_from.new.cursor) c.new-cursor.ensures.all (c.is_empty.ensures.0 c.if-is_empty.true)
    c.in-Ok.ensures.encoded in
    (is, λ w h. whole_only IsTbsCertList c.unambiguous.ensures.data c.in-Ok.list w c.args.octets.now is h)

pub returns-else-is_empty : goal.returns-else-is_empty
returns-else-is_empty c = λ w h.
    none_whole IsTbsCertList c.unambiguous.ensures.data c.in-Ok.list w (remaining c.new-cursor.result)
    c.args.octets.now (remaining c.take_from.new.cursor) c.new-cursor.ensures.all
    (λ nil. false≢true (sym c.if-is_empty.false ∙ c.is_empty.ensures.1 nil)) c.in-Ok.ensures.encoded h

pub returns-else-is_memory : goal.returns-else-is_memory
returns-else-is_memory c = λ w h.
    unread_whole IsTbsCertList c.in-Err.error
    (λ same. false≢true (sym c.if-is_memory.false ∙ c.is_memory-is_memory.ensures.1 same))
    (remaining c.new-cursor.result) c.args.octets.now c.new-cursor.ensures.all c.in-Err.ensures.encoded w h
