use Rattle.rpki_der.specs.Place.{remaining}
use Rattle.rpki_der.specs.Values.Reading.{value_at}
use Rattle.rpki_der.specs.Values.{IsEnc}
use Rattle.rpki_der.proofs.Answering.{answers}
use Rattle.rpki_der.proofs.ValueReads.{value_reads}
use Rattle.rpki_der.proofs.cursor.Cursor.take_value.Goals as goal

pub returns-clause-answers : goal.returns-clause-answers
returns-clause-answers c =
    let read = c.next_value in
    record {
      encoded = answers remaining (value_at c.args.tag) (IsEnc c.args.tag) (value_reads c.args.tag) c.args.self.now
          read.result read.new.self read.ensures.octets read.ensures.reads;
      reads = read.ensures.reads;
      keeps = read.ensures.keeps;
    }
