use Rattle.std.specs.Prelude.{codes}
use Rattle.std.proofs.Common.{[], ◌∷◌, refl, rules}
use Rattle.rpki_document.specs.Documents.{document_of, each, inside}
use Rattle.rpki_text.specs.KeyTexts.{IsKeyAnswer}
use Rattle.rpki_answers.specs.Verdicts.{holder_nodes, router_nodes}
use Rattle.rpki_answers.proofs.verdict_document.accepted.some_below.Goals as goal

pub returns : goal.returns
returns c =
    let cert = c.args.cert.now in
    let key = c.answer_of-found.result in
    let is : IsKeyAnswer cert.fields.key key = search rules in (
      inside (codes "router") (document_of (router_nodes cert key))
          ∷ each (codes "issuer_holds") (document_of (
          holder_nodes (codes "Issuer's AS") (codes "Issuer's IPv4") (codes "Issuer's IPv6") c.args.holder.now)) ∷ [],
      (key, is, refl),
    )
