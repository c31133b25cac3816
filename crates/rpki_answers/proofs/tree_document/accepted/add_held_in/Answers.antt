use Rattle.std.proofs.Common.{[], ◌∷◌, refl, sym}
use Rattle.std.proofs.lemmas.List.{append-nil}
use Rattle.rpki_document.specs.Building.{nodes_of}
use Rattle.rpki_document.specs.Documents.{aside, document_of}
use Rattle.rpki_answers.specs.TreeDocuments.Steps.{AreHeldAside}
use Rattle.rpki_answers.proofs.PrintedAs.{some_as}
use Rattle.rpki_answers.proofs.tree_document.accepted.add_held_in.Goals as goal

pub returns-in-Text : goal.returns-in-Text
returns-in-Text c =
    let held = c.some_held.ensures in
    rw c.in-Text.is (
      [],
      (aside (document_of held.0) ∷ [], (held.0, held.1, refl), refl),
      sym (append-nil (nodes_of c.args.parts.now.items)),
    )

pub returns-in-Json : goal.returns-in-Json
returns-in-Json c =
    some_as c.add_held_aside.result c.args.format
    (AreHeldAside c.args.judged.now.holder c.args.judged.now.router) c.args.parts.now.items
    c.add_held_aside.new.parts.items c.add_held_aside.ensures
