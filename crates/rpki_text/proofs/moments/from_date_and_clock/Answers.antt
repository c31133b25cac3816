use Rattle.std.proofs.Common.{rules}
use Rattle.rpki_text.specs.MomentTexts.{HasMarks}
use Rattle.rpki_text.proofs.DigitPlaces.{no_clock, a_clock}
use Rattle.rpki_text.proofs.moments.from_date_and_clock.Goals as goal

pub returns-clause-some : goal.returns-clause-some
returns-clause-some c =
    let marks : HasMarks c.args.text.now = search rules in
    a_clock _ c.args.text.now c.all_digits-digits.result c.all_digits-digits.ensures marks c.from_digits.ensures.some

pub returns-clause-none : goal.returns-clause-none
returns-clause-none c = no_clock _ c.args.text.now c.all_digits-digits.result c.all_digits-digits.ensures c.from_digits.ensures.none
