use Rattle.rpki_der.proofs.FormatAnswers.{answers_or_memory_alone}
use Rattle.rpki_der.specs.Skipping.{levels}
use Rattle.rpki_parts.specs.Names.{name_format}
use Rattle.rpki_parts.proofs.NameReads.{name_alone}
use Rattle.rpki_parts.proofs.name.Name.take_from.Goals as goal

pub returns : goal.returns
returns c =
    let read = c.read in
    answers_or_memory_alone (λ x. x) (name_format levels) c.args.cursor.now read.result read.new.cursor
    (name_alone levels) read.ensures.octets read.ensures.reads read.ensures.keeps
