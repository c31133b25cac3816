use Rattle.std.proofs.Common.{rules}
use Rattle.rpki_der.proofs.FormatAnswers.{answers_lawful}
use Rattle.rpki_der.proofs.BasicFormats.{null_lawful}
use Rattle.rpki_der.proofs.cursor.Cursor.take_null.Goals as goal

pub returns : goal.returns
returns c = search (rules, answers_lawful, null_lawful)
