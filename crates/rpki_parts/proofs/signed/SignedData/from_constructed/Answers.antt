use Rattle.rpki_der.proofs.FormatAnswers.{answers_or_memory_alone}
use Rattle.rpki_parts.specs.SignedDatas.{signed_content_format}
use Rattle.rpki_parts.proofs.SignedFormats.{signed_content_alone}
use Rattle.rpki_parts.proofs.signed.SignedData.from_constructed.Goals as goal

pub returns : goal.returns
returns c =
    let read = c.read in
    answers_or_memory_alone (λ x. x) signed_content_format c.args.content.now read.result read.new.content
    signed_content_alone read.ensures.octets read.ensures.reads read.ensures.keeps
