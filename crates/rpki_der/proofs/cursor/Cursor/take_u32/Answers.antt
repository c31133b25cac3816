use Rattle.std.proofs.Common.{rules}
use Rattle.rpki_der.proofs.FormatAnswers.{answers_lawful}
use Rattle.rpki_der.proofs.BasicFormats.{u32_lawful}
use Rattle.rpki_der.proofs.cursor.Cursor.take_u32.Goals as goal

pub returns : goal.returns
returns c = search (rules, answers_lawful, u32_lawful)
