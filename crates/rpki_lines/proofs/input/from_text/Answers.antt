use Rattle.std.proofs.Common.{◌∷◌, [], refl}
use Rattle.rpki_lines.specs.declared.input.Input.TheVariants.{Revoked, Bad}
use Rattle.rpki_lines.proofs.InputLines.{bad_after, bad_line, behind_line, first_unfit, if_ok, line_missing}
use Rattle.rpki_lines.proofs.InputLines.{list_begins, no_empty_input, none_left, nothing_begins, second_of_list}
use Rattle.rpki_lines.proofs.InputLines.{some_left}
use Rattle.rpki_lines.proofs.input.from_text.Goals as goal

pub returns-in_default : goal.returns-in_default
returns-in_default c = line_missing [] nothing_begins 1 refl c.args.text.now c.in_default.ensures.none no_empty_input

pub returns-in-Some-moment_from : goal.returns-in-Some-moment_from
returns-in-Some-moment_from c =
    let line = c.in-Some.line.now in
    if_ok c.path_from.result (λ input read. behind_line [] line c.in-Some.others.now c.args.text.now input c.in-Some.ensures.line read)
    (c.path_from.ensures (line ∷ []) (c.in-Some-moment_from.ensures.some, tt))

pub returns-in_default-2 : goal.returns-in_default-2
returns-in_default-2 c =
    let no_list = rw c.in_default-2.is at c.in_ok-question.ensures.none in
    let line = c.in-Some.line.now in
    bad_line [] nothing_begins 1 refl c.args.text.now line c.in-Some.others.now c.in-Some.ensures.line
    (first_unfit line no_list c.in_default-moment_from.ensures.none)

pub returns-then-not-is_empty : goal.returns-then-not-is_empty
returns-then-not-is_empty c =
    let asked = rw c.in-Some-2.is at c.in_ok-question.ensures.asked in
    let q = c.in-Some-2.question in
    let line = c.in-Some.line.now in
    let others = c.in-Some.others.now in
    behind_line [] line others c.args.text.now (Bad 2) c.in-Some.ensures.line
    (bad_after (line ∷ []) (list_begins q.list q.serial line asked) 2 refl others
    (some_left others c.if-not-is_empty.ensures) (second_of_list q.list q.serial line asked))

pub returns : goal.returns
returns c =
    let asked = rw c.in-Some-2.is at c.in_ok-question.ensures.asked in
    let line = c.in-Some.line.now in
    let others = c.in-Some.others.now in
    behind_line [] line others c.args.text.now (Revoked c.in-Some-2.question) c.in-Some.ensures.line
    ([], none_left others c.if-not-is_empty.ensures, (asked, tt))
