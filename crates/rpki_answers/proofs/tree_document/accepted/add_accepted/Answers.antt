use Rattle.std.proofs.Common.{List, [], ◌∷◌, ◌++◌, ap, append_assoc}
use Rattle.rpki_document.proofs.Built.{ended_some, ended_with}
use Rattle.rpki_document.specs.Documents.{Node}
use Rattle.rpki_answers.specs.TreeDocuments.{AreAcceptedNodes, above_node, accepted_head, more_nodes}
use Rattle.rpki_answers.specs.TreeDocuments.Steps.{PrintsSome}
use Rattle.rpki_answers.proofs.PrintedAs.{as_are, as_both}
use Rattle.rpki_answers.proofs.tree_document.accepted.add_accepted.Goals as goal

pub returns : goal.returns
returns c =
    let tree = c.args.tree.now in
    let paths = c.args.paths.now in
    let above = paths.shown.now.above.items in
    let last = c.add_more.result in
    let format = c.args.format in
    let first = accepted_head c.args.name.now tree above c.args.kind ∷ above_node tree above ∷ [] in
    let aside_in = c.in_ok-add_held_in.ensures in
    let several = c.in_ok-add_paths.ensures in
    let below = several.0 ++ more_nodes paths.more in
    let whole = aside_in.1 in
    let held = whole.1 in
    ended_some last (PrintsSome format (AreAcceptedNodes c.args.name.now tree paths c.args.kind))
    (first ++ (aside_in.0 ++ below)) c.args.parts.now.items c.add_more.new.parts.items (
      first ++ (whole.0 ++ below),
      (held.0, several.0, held.1, several.1, ap (λ (l : List Node). first ++ (l ++ below)) held.2),
      as_both format first (aside_in.0 ++ below) first (whole.0 ++ below) (as_are format first)
          (as_both format aside_in.0 below whole.0 below whole.2 (as_are format below)),
    )
    (ended_with last _ _ _ c.add_more.ensures
    (rw (
      several.2,
      aside_in.2,
      c.in_ok-add_above.ensures,
      c.deref-2.ensures.value,
      c.in_ok-add_accepted_head.ensures,
      c.deref.ensures.value,
    )
    (simp append_assoc)))
