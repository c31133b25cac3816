use Rattle.std.proofs.lemmas.Fmt.{IsAscii-from_digits}
use Rattle.std.proofs.lemmas.Str.{IsUtf8-from_ascii}
use Rattle.rpki_text.proofs.command_line.words.number_of.Goals as goal

pub returns-in_default : goal.returns-in_default
returns-in_default c = λ n is.
    c.in_default.ensures.cases.0 (IsUtf8-from_ascii c.args.text.now (IsAscii-from_digits c.args.text.now is.0.1))
