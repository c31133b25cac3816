use Rattle.std.proofs.Common.{refl}
use Rattle.rpki_der.specs.BasicFormats.{time_format}
use Rattle.rpki_der.proofs.BasicFormats.{time_lawful}
use Rattle.rpki_der.proofs.FormatAnswers.{answers_lawful}
use Rattle.rpki_der.proofs.time.Time.take_from.Goals as goal

pub returns : goal.returns
returns c =
    let read = c.take_time in
    answers_lawful (λ x. x) time_format c.args.cursor.now read.result read.new.cursor refl time_lawful
    read.ensures.octets read.ensures.reads read.ensures.keeps
