use Rattle.std.specs.Prelude.{codes}
use Rattle.std.proofs.Common.{[], ◌∷◌, refl}
use Rattle.rpki_document.specs.Documents.{document_of, each}
use Rattle.rpki_answers.specs.Verdicts.{holder_nodes}
use Rattle.rpki_answers.proofs.verdict_document.accepted.some_held.Goals as goal

pub returns-in-Some : goal.returns-in-Some
returns-in-Some c = rw c.in-Some.is c.some_below.ensures

pub returns-in-None : goal.returns-in-None
returns-in-None c = rw c.in-None.is (
  each (codes "holds") (document_of (
      holder_nodes (codes "AS resources") (codes "IPv4 resources") (codes "IPv6 resources") c.args.judged.now.holder)) ∷ [],
  refl,
)
