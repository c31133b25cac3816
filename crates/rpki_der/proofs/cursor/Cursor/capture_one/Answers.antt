use Rattle.std.proofs.Common.{rules}
use Rattle.rpki_der.proofs.FormatAnswers.{answers_or_memory_lawful}
use Rattle.rpki_der.proofs.BasicFormats.{any_value_lawful}
use Rattle.rpki_der.proofs.cursor.Cursor.capture_one.Goals as goal

pub returns : goal.returns
returns c = search (rules, answers_or_memory_lawful, any_value_lawful)
