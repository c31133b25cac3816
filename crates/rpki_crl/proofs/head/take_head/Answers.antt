use Rattle.rpki_der.specs.Skipping.{levels}
use Rattle.rpki_der.proofs.FormatAnswers.{answers_or_memory_alone}
use Rattle.rpki_crl.specs.ListHeads.{head_format}
use Rattle.rpki_crl.proofs.ListFormats.{head_alone}
use Rattle.rpki_crl.proofs.head.take_head.Goals as goal

pub returns : goal.returns
unfolding head_format
returns c = answers_or_memory_alone (λ h. h) (head_format levels) c.args.content.now c.read.result c.read.new.cursor
    (head_alone levels) c.read.ensures.octets c.read.ensures.reads c.read.ensures.keeps
