use Rattle.rpki_lines.proofs.Splits.{stripped, not_stripped}
use Rattle.rpki_lines.proofs.lines.behind.Goals as goal

pub returns-clause-some : goal.returns-clause-some
returns-clause-some c = stripped (λ x. x.now) c.args.beginning.now c.args.line.now c.strip_prefix.result c.strip_prefix.ensures.cases

pub returns-clause-none : goal.returns-clause-none
returns-clause-none c = not_stripped (λ x. x.now) c.args.beginning.now c.args.line.now c.strip_prefix.result c.strip_prefix.ensures.cases
