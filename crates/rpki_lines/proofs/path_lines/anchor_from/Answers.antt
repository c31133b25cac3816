use Rattle.std.proofs.Common.{◌∷◌, ◌++◌, []}
use Rattle.rpki_lines.specs.InputLines.{IsInputLine, at_moment, strictness, anchor}
use Rattle.rpki_lines.proofs.InputLines.{bad_third, behind_line, if_ok, no_third}
use Rattle.rpki_path.proofs.LongerPaths.{zip_more}
use Rattle.rpki_lines.proofs.path_lines.anchor_from.Goals as goal

pub returns-in_default : goal.returns-in_default
returns-in_default c = λ before is. no_third c.args.now c.args.strict before is c.args.text.now c.in_default.ensures.none

pub returns-in_default-2 : goal.returns-in_default-2
returns-in_default-2 c = λ before is.
    let none = rw c.in_default-2.is at c.in_ok-anchor.ensures.none in
    bad_third c.args.now c.args.strict before is c.args.text.now c.in-Some.line.now c.in-Some.rest.now c.in-Some.ensures.line none

pub returns : goal.returns
returns c = λ before is.
    let tells = rw c.in-Some-2.is at c.in_ok-anchor.ensures.encoded in
    let line = c.in-Some.line.now in
    if_ok c.members_from.result (λ input read. behind_line before line c.in-Some.rest.now c.args.text.now input c.in-Some.ensures.line read)
    (c.members_from.ensures (before ++ line ∷ [])
    (zip_more IsInputLine (at_moment c.args.now ∷ strictness c.args.strict ∷ []) before (anchor c.in-Some-2.anchor)
    line is tells))
