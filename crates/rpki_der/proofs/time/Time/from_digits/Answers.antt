use Rattle.rpki_der.proofs.TimeReads.{found_digits, no_digits}
use Rattle.rpki_der.proofs.time.Time.from_digits.Goals as goal

pub returns-clause-some : goal.returns-clause-some
returns-clause-some c = rw c.ok.ensures.value (found_digits c.args.text.now c.four_digit_year.result c.four_digit_year.ensures)

pub returns-clause-none : goal.returns-clause-none
returns-clause-none c = rw c.ok.ensures.value (no_digits c.args.text.now c.four_digit_year.result c.four_digit_year.ensures)
