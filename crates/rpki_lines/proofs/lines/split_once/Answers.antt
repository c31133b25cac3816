use Rattle.std.proofs.Common.{sym, ◌∙◌}
use Rattle.rpki_lines.proofs.Splits.{parts_at, without_any, without_before}
use Rattle.rpki_lines.proofs.lines.split_once.Goals as goal

pub returns-in_err-at-clause-none : goal.returns-in_err-at-clause-none
returns-in_err-at-clause-none c =
    rw c.from_residual.ensures
    (without_any c.args.separator c.args.text.now (sym c.position_of.ensures ∙ c.in_err-at.was))

pub returns-clause-parts : goal.returns-clause-parts
returns-clause-parts c = parts_at c.args.separator c.args.text.now c.in_ok-at.at (sym c.position_of.ensures ∙ c.in_ok-at.was)

pub returns-clause-first : goal.returns-clause-first
returns-clause-first c = without_before c.args.separator c.args.text.now c.in_ok-at.at (sym c.position_of.ensures ∙ c.in_ok-at.was)
