use Rattle.std.proofs.Common.{◌++◌, append_assoc, refl}
use Rattle.rpki_document.proofs.Built.{ended_some, ended_with}
use Rattle.rpki_answers.specs.Verdicts.{AreAcceptance, checked_nodes, unchecked_nodes}
use Rattle.rpki_answers.proofs.verdict_document.accepted.add_acceptance.Goals as goal

pub returns : goal.returns
returns c =
    let q = c.args.question.now in
    let last = c.add_all_unchecked.result in
    let tal = c.in_ok-add_located.ensures in
    let held = c.in_ok-add_held.ensures in
    ended_some last (AreAcceptance q c.args.judged.now)
    (tal.0 ++ (held.0 ++ (checked_nodes q ++ unchecked_nodes q)))
    c.args.parts.now.items c.add_all_unchecked.new.parts.items
    (record { tal = tal.0; tal_is = tal.1; held = held.0; held_are = held.1; nodes_are = refl })
    (ended_with last _ _ _ c.add_all_unchecked.ensures
    (rw (c.in_ok-add_checked.ensures, held.2, tal.2) (simp append_assoc)))
