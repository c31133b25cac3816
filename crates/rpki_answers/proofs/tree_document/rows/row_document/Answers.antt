use Rattle.std.proofs.Common.{◌≡◌, ◌++◌, List, append_assoc, refl, subst, sym}
use Rattle.rpki_document.specs.Building.{nodes_of}
use Rattle.rpki_document.specs.Documents.{Node}
use Rattle.rpki_answers.specs.TreeDocuments.{left_nodes, limit_nodes}
use Rattle.rpki_answers.specs.TreeDocuments.Steps.{PrintsAs}
use Rattle.rpki_answers.proofs.PrintedAs.{as_are, as_both}
use Rattle.rpki_answers.proofs.tree_document.rows.row_document.Goals as goal

pub returns : goal.returns
returns c =
    let row = c.args.row.now in
    let format = c.args.format in
    let said = c.in_ok-add_said.ensures in
    let whole = said.1 in
    let below = limit_nodes row.limit ++ left_nodes row.left in
    let all : nodes_of c.add_left.new.parts.items ≡ said.0 ++ below =
    rw (c.in_ok-add_left.ensures, c.in_ok-add_limit.ensures, said.2, c.new-parts.ensures.items)
    (simp append_assoc) in (
      whole.0 ++ below,
      (whole.0, rw c.name.ensures at whole.1, refl),
      subst (λ (l : List Node). PrintsAs format l (whole.0 ++ below)) (sym all)
          (as_both format said.0 below whole.0 below whole.2 (as_are format below)),
    )
