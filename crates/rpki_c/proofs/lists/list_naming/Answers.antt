use Rattle.std.specs.Prelude.{Contains}
use Rattle.std.proofs.Common.{rules, ◌≡◌, Err}
use Rattle.std.proofs.lemmas.Slice.Eq.{bytes_eq-Decides}
use Rattle.rpki_der.proofs.Answering.{rejects}
use Rattle.rpki_c.proofs.CallersLists.{no_key, not_foreign}
use Rattle.rpki_c.proofs.lists.list_naming.Goals as goal

pub returns-in_err-key-clause-unread : goal.returns-in_err-key-clause-unread
returns-in_err-key-clause-unread c =
    let e = c.in_err-key.field-0.0 in
    let same : c.from_residual.result ≡ Err e = search rules in
    rw same (rejects e (no_key (Contains c.args.keys.now) c.args.octets.now) c.in_err-key.ensures)

pub returns-in_err-list-clause-unread : goal.returns-in_err-list-clause-unread
returns-in_err-list-clause-unread c =
    let octets = c.args.octets.now in
    let IsKey = Contains c.args.keys.now in
    let key = c.in_ok-key.key in
    let e = c.in_err-list.field-0.0 in
    let same : c.from_residual-in_err-list.result ≡ Err e = search rules in
    let (place, low, at) = c.if-not-contains.ensures.cases in
    let there : IsKey key = (place, low, (bytes_eq-Decides _ key).0 (at key)) in
    rw same (rejects e (λ none. (none, not_foreign IsKey octets key c.in_ok-key.ensures there)) c.in_err-list.ensures)
