use Rattle.std.proofs.lemmas.Result.{IfOk-weaker}
use Rattle.std.specs.Prelude.{codes}
use Rattle.std.proofs.Common.{[], ◌∷◌, refl}
use Rattle.rpki_document.specs.Documents.{document_of, each}
use Rattle.rpki_answers.specs.Verdicts.{holder_nodes}
use Rattle.rpki_answers.proofs.verdict_document.accepted.add_own_resources.Goals as goal

pub returns : goal.returns
returns c =
    IfOk-weaker c.add_each.result _ _ (λ _ last. (
      each (codes "holds") (document_of (
          holder_nodes (codes "AS resources") (codes "IPv4 resources") (codes "IPv6 resources") c.args.holder.now)) ∷ [],
      refl,
      (rw (c.in_ok-add_holder.ensures, c.new-held.ensures.items) at last),
    )) c.add_each.ensures
