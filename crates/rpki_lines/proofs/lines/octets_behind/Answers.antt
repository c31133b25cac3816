use Rattle.rpki_lines.proofs.Splits.{no_word}
use Rattle.rpki_lines.proofs.lines.octets_behind.Goals as goal

pub returns-in_default-2-clause-none : goal.returns-in_default-2-clause-none
returns-in_default-2-clause-none c =
    let none = rw c.in_default-2.is at c.in_ok-octets.ensures.none in
    no_word c.args.name.now c.in-Some.word.now c.args.line.now c.in-Some.ensures.some none
