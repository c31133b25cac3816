use Rattle.std.proofs.Common.{rules}
use Rattle.rpki_der.proofs.FormatAnswers.{answers_lawful}
use Rattle.rpki_der.proofs.BasicFormats.{skippable_value_lawful}
use Rattle.rpki_der.proofs.cursor.Cursor.skip_one.Goals as goal

pub returns : goal.returns
returns c = search (rules, answers_lawful, skippable_value_lawful)
