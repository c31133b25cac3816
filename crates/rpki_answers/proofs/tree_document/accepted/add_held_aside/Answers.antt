use Rattle.std.proofs.lemmas.Result.{IfOk-weaker}
use Rattle.std.proofs.Common.{[], ◌∷◌, refl}
use Rattle.rpki_document.specs.Documents.{aside, document_of}
use Rattle.rpki_answers.proofs.tree_document.accepted.add_held_aside.Goals as goal

pub returns : goal.returns
returns c =
    let held = c.in_ok-add_held.ensures in
    IfOk-weaker c.add_aside.result _ _ (λ _ last. (
      aside (document_of held.0) ∷ [],
      (held.0, held.1, refl),
      rw (held.2, c.new-held.ensures.items) at last,
    )) c.add_aside.ensures
