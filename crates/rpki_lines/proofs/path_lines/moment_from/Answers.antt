use Rattle.rpki_lines.proofs.MomentLines.{moment_line, no_moment_line}
use Rattle.rpki_lines.proofs.path_lines.moment_from.Goals as goal

pub returns-clause-some : goal.returns-clause-some
returns-clause-some c = moment_line c.args.line.now c.in_ok-behind.field-0.now c.from_digits.result
    c.in_ok-behind.ensures.some c.from_digits.ensures.some

pub returns-clause-none : goal.returns-clause-none
returns-clause-none c = no_moment_line c.args.line.now c.in_ok-behind.field-0.now c.from_digits.result
    c.in_ok-behind.ensures.some c.from_digits.ensures.none
