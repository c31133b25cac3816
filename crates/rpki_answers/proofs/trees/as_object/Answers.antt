use Rattle.std.proofs.Common.{◌≡◌, ◌∙◌, Bor, List, ◌∷◌, map, string_bytes, ap, subst}
use Rattle.std.proofs.lemmas.Result.{IfOk-weaker}
use Rattle.rpki_document.specs.Building.{nodes_of}
use Rattle.rpki_document.specs.Documents.{Node}
use Rattle.rpki_files.specs.Files.{FileFields}
use Rattle.rpki_verdicts.specs.Trees.{asked_of}
use Rattle.rpki_answers.specs.TreeDocuments.{PrintsRows, end_nodes, files_node, rendered, tals_node}
use Rattle.rpki_answers.proofs.TreeRowsInOrder.{as_object}
use Rattle.rpki_answers.proofs.trees.as_object.Goals as goal

pub returns : goal.returns
returns c =
    let trees = c.args.trees.now in
    let rows = c.in_ok-add_rows.ensures in
    let ends = end_nodes (asked_of c.args.question.now) trees c.args.rows.now (map (λ name. name.now) c.args.unread.now) in
    let certs = ap (λ (l : List (Bor FileFields)). map (λ f. f.now) l) c.deref.ensures.value in
    let whole : nodes_of c.add_end.new.parts.items ≡ tals_node trees ∷ files_node rows.0 ∷ ends =
    rw (
      c.in_ok-add_end.ensures,
      c.in_ok-add_each.ensures,
      rows.2,
      c.new-files.ensures.items,
      c.in_ok-add_tals.ensures,
      c.new-whole.ensures.items,
    ) in
    IfOk-weaker c.formed.result _ _ (λ text written. (
      rows.0,
      subst (λ (l : List FileFields). PrintsRows c.args.options.only_rejected l c.args.rows.now rows.0) certs rows.1,
      as_object (tals_node trees) rows.0 ends (string_bytes text) c.args.options.format c.requires
          (written ∙ ap (λ (l : List Node). rendered c.args.options.format l) whole),
    )) c.formed.ensures
