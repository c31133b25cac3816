use Rattle.rpki_der.proofs.FormatAnswers.{answers_or_memory_alone}
use Rattle.rpki_parts.specs.Keys.{public_key_format}
use Rattle.rpki_parts.proofs.PartFormats.{public_key_alone}
use Rattle.rpki_parts.proofs.key.PublicKey.take_from.Goals as goal

pub returns : goal.returns
returns c =
    let read = c.read in
    answers_or_memory_alone (λ x. x) public_key_format c.args.cursor.now read.result read.new.cursor public_key_alone
    read.ensures.octets read.ensures.reads read.ensures.keeps
