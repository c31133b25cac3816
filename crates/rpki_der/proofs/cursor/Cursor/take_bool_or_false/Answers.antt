use Rattle.rpki_der.specs.Primitives.{IsBoolOrFalse}
use Rattle.rpki_der.specs.Primitives.Reading.{bool_or_false_at}
use Rattle.rpki_der.specs.Tags.{BOOLEAN}
use Rattle.rpki_der.proofs.Optionals.{answers_or_absent}
use Rattle.rpki_der.proofs.PrimitiveReads.{bool_or_false}
use Rattle.rpki_der.proofs.cursor.Cursor.take_bool_or_false.Goals as goal

pub returns : goal.returns
returns c =
    let read = c.next_bool_or_false in
    record {
      encoded = answers_or_absent BOOLEAN bool_or_false_at IsBoolOrFalse bool_or_false c.args.self.now read.result
          read.new.self read.ensures.octets read.ensures.reads;
      reads = read.ensures.reads;
      keeps = read.ensures.keeps;
    }
