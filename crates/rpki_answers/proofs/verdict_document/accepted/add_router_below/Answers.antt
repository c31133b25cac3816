use Rattle.rpki_document.proofs.Built.{then_added}
use Rattle.std.proofs.lemmas.Result.{IfOk-weaker}
use Rattle.std.specs.Prelude.{codes}
use Rattle.std.proofs.Common.{[], ◌∷◌, refl}
use Rattle.rpki_document.specs.Documents.{document_of, each, inside}
use Rattle.rpki_answers.specs.Verdicts.{holder_nodes, router_nodes}
use Rattle.rpki_answers.proofs.verdict_document.accepted.add_router_below.Goals as goal

pub returns : goal.returns
returns c =
    let cert = c.args.cert.now in
    let router = c.in_ok-add_router.ensures in
    IfOk-weaker c.add_each.result _ _ (λ _ last. (
      inside (codes "router") (document_of (router_nodes cert router.0))
          ∷ each (codes "issuer_holds") (document_of (
          holder_nodes (codes "Issuer's AS") (codes "Issuer's IPv4") (codes "Issuer's IPv6") c.args.holder.now)) ∷ [],
      (router.0, router.1, refl),
      then_added _ _ _ _ _ (rw (router.2, c.new-router.ensures.items) at c.in_ok-add_inside.ensures)
          (rw (c.in_ok-add_holder.ensures, c.new-held.ensures.items) at last),
    )) c.add_each.ensures
