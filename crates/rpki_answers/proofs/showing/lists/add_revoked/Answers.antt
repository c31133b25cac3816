use Rattle.std.proofs.Common.{◌≡◌, length, rules}
use Rattle.rpki_document.proofs.Built.{then_ended}
use Rattle.rpki_answers.proofs.showing.lists.add_revoked.Goals as goal

pub returns : goal.returns
returns c =
    let counted : c.in-Some.count ≡ length c.args.revoked.now.entries = search rules in
    then_ended c.add_each.result _ _ _ _ _
    (rw (c.in_ok-pieces.ensures.items, counted) at c.in_ok-add_line.ensures)
    (rw (c.in_ok-add_entries.ensures, c.new-entries.ensures.items, c.is_whole-whole.ensures, counted) at c.add_each.ensures)
