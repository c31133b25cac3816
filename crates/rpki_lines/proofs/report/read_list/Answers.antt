use Rattle.std.proofs.lemmas.Bool.{false≢true}
use Rattle.std.proofs.lemmas.Result.{err_from_is_err_and}
use Rattle.rpki_der.specs.Place.{remaining}
use Rattle.rpki_lines.proofs.WholeLists.{list_left, list_rejected}
use Rattle.rpki_lines.proofs.report.read_list.Goals as goal

pub returns-in_err-list : goal.returns-in_err-list
returns-in_err-list c =
    let e = err_from_is_err_and c.from_residual.result c.from_residual.ensures.1 in
    let none = rw c.new-cursor.ensures.all at c.in_err-list.ensures.encoded in
    list_rejected c.args.octets.now c.from_residual.result e.0 e.1 (rw e.2 none)

pub returns-in_err-finish : goal.returns-in_err-finish
returns-in_err-finish c =
    let begins = rw c.new-cursor.ensures.all at c.in_ok-list.ensures.encoded in
    list_left c.args.octets.now c.from_residual-in_err-finish.result c.in_ok-list.list
    (remaining c.take_from.new.cursor) c.unambiguous.ensures.revoked c.from_residual-in_err-finish.ensures.0
    begins
    (λ none. false≢true (c.in_err-finish.ensures.end.1 none))
