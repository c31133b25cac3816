use Rattle.rpki_der.proofs.FormatAnswers.{answers_alone}
use Rattle.rpki_parts.specs.Validities.{validity_format}
use Rattle.rpki_parts.proofs.PartFormats.{validity_alone}
use Rattle.rpki_parts.proofs.validity.Validity.take_from.Goals as goal

pub returns : goal.returns
returns c =
    let read = c.read in
    answers_alone (λ x. x) validity_format c.args.cursor.now read.result read.new.cursor validity_alone
    read.ensures.octets read.ensures.reads read.ensures.keeps
