use Rattle.std.proofs.Common.{◌≡◌, length, rules}
use Rattle.rpki_document.proofs.Built.{ended_with}
use Rattle.rpki_answers.proofs.tree_document.counts.add_all_counts.Goals as goal

pub returns : goal.returns
returns c =
    let many : c.len.result ≡ length c.args.trees.now.certs.items = search rules in
    ended_with c.add_inside.result _ _ _ c.add_inside.ensures
    (rw (c.in_ok-add_counts.ensures, c.in_ok-add_told.ensures, c.new-counts.ensures.items, many))
