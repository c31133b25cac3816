use Rattle.std.proofs.Common.{rules}
use Rattle.rpki_der.proofs.FormatAnswers.{answers_lawful}
use Rattle.rpki_der.proofs.BasicFormats.{serial_lawful}
use Rattle.rpki_der.proofs.serial.Serial.take_from.Goals as goal

pub returns : goal.returns
returns c = search (rules, answers_lawful, serial_lawful)
