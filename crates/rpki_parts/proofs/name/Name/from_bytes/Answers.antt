use Rattle.std.proofs.lemmas.Bool.{false≢true}
use Rattle.rpki_der.specs.Place.{remaining}
use Rattle.rpki_der.specs.Skipping.{levels}
use Rattle.rpki_der.proofs.Answering.{none_encoded}
use Rattle.rpki_parts.specs.Names.{IsName, name_format}
use Rattle.rpki_parts.proofs.NameReads.{name_reads}
use Rattle.rpki_parts.proofs.name.Name.from_bytes.Goals as goal

pub returns-then-not-is_empty : goal.returns-then-not-is_empty
returns-then-not-is_empty c = λ y encoded.
    none_encoded (name_format levels).read IsName name_reads c.in_ok-name.name y (remaining c.new-cursor.result)
    c.args.octets (remaining c.take_from.new.cursor) c.new-cursor.ensures.all
    (λ nil. false≢true (c.if-not-is_empty.ensures.1 nil)) c.in_ok-name.ensures.encoded encoded
