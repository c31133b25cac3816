use Rattle.std.proofs.Common.{Bor, List, map, string_bytes, ap, subst}
use Rattle.rpki_files.specs.Files.{FileFields}
use Rattle.rpki_verdicts.specs.Trees.{asked_of}
use Rattle.rpki_answers.specs.TreeDocuments.{PrintsRows, end_nodes, tals_node}
use Rattle.rpki_answers.proofs.TreeRowsInOrder.{as_lines}
use Rattle.rpki_answers.proofs.trees.as_lines.Goals as goal

pub returns : goal.returns
returns c =
    let trees = c.args.trees.now in
    let rows = c.in_ok-append_rows.ensures in
    let ends = end_nodes (asked_of c.args.question.now) trees c.args.rows.now (map (λ name. name.now) c.args.unread.now) in
    let certs = ap (λ (l : List (Bor FileFields)). map (λ f. f.now) l) c.deref.ensures.value in (
      rows.0,
      subst (λ (l : List FileFields). PrintsRows c.args.options.only_rejected l c.args.rows.now rows.0) certs rows.1,
      as_lines (tals_node trees) rows.0 ends (string_bytes c.append-2.new.out) c.args.options.format c.requires
          (rw (
            c.in_ok-append-2.ensures,
            c.in_ok-add_end.ensures,
            c.new-ends.ensures.items,
            rows.2,
            c.in_ok-append.ensures,
            c.in_ok-add_tals.ensures,
            c.new-heads.ensures.items,
            c.new-out.ensures.bytes,
          )),
    )
