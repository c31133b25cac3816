use Rattle.rpki_lines.proofs.HexDigits.{none_found, other_word, word_digits}
use Rattle.rpki_lines.proofs.lines.from_word.Goals as goal

pub returns-clause-none : goal.returns-clause-none
returns-clause-none c =
    none_found c.from_digits.result
    (λ none octets encoded. none octets (word_digits octets c.args.word.now (other_word c.args.word.now c.if-eq.ensures) encoded))
    c.from_digits.ensures.none
