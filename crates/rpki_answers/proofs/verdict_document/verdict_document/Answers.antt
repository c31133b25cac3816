use Rattle.std.proofs.Common.{◌≡◌, [], ◌∷◌, ◌++◌, append_assoc, subst}
use Rattle.rpki_document.specs.Building.{Adds, nodes_of}
use Rattle.rpki_verdicts.specs.PathFiles.{QuestionFields}
use Rattle.rpki_answers.specs.Verdicts.{asked_nodes, time_node}
use Rattle.rpki_answers.proofs.verdict_document.verdict_document.Goals as goal

pub returns : goal.returns
returns c =
    let q = c.args.question.now in
    let opening = c.in_ok-add_opening.ensures in
    let files = c.in_ok-add_files.ensures in
    let time : Adds (time_node q.at ∷ []) c.add_files.new.parts.items c.add_time.new.parts.items =
    subst (λ (f : QuestionFields). Adds (time_node f.at ∷ []) c.add_files.new.parts.items c.add_time.new.parts.items)
    c.question.view_is c.in_ok-add_time.ensures in
    let closing = c.in_ok-add_closing.ensures in
    let said : nodes_of c.add_closing.new.parts.items
    ≡ opening.0 ++ (files.0 ++ (time_node q.at ∷ (asked_nodes q ++ closing.0))) =
    rw (closing.2, c.in_ok-add_asked.ensures, time, files.2, opening.2, c.new-parts.ensures.items) (simp append_assoc) in
    record {
      opening = opening.0;
      opening_is = opening.1;
      files = files.0;
      files_are = files.1;
      closing = closing.0;
      closing_is = closing.1;
      nodes_are = said;
    }
