use Rattle.std.proofs.Common.{◌∷◌, ◌++◌, []}
use Rattle.rpki_lines.specs.InputLines.{IsInputLine, at_moment, strictness}
use Rattle.rpki_lines.proofs.InputLines.{bad_second, behind_line, if_ok, no_second}
use Rattle.rpki_path.proofs.LongerPaths.{zip_more}
use Rattle.rpki_lines.proofs.path_lines.path_from.Goals as goal

pub returns-in_default : goal.returns-in_default
returns-in_default c = λ before is. no_second c.args.now before is c.args.text.now c.in_default.ensures.none

pub returns-in_default-strictness_from : goal.returns-in_default-strictness_from
returns-in_default-strictness_from c = λ before is.
    bad_second c.args.now before is c.args.text.now c.in-Some.line.now c.in-Some.rest.now c.in-Some.ensures.line
    c.in_default-strictness_from.ensures.none

pub returns : goal.returns
returns c = λ before is.
    let line = c.in-Some.line.now in
    if_ok c.anchor_from.result (λ input read. behind_line before line c.in-Some.rest.now c.args.text.now input c.in-Some.ensures.line read)
    (c.anchor_from.ensures (before ++ line ∷ [])
    (zip_more IsInputLine (at_moment c.args.now ∷ []) before (strictness c.in-Some-strictness_from.strict) line is
    c.in-Some-strictness_from.ensures.some))
