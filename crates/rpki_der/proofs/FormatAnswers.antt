-- Both directions of a reader of a format, from what it took; and the laws by which formats are
-- found to be lawful.
use Rattle.std.proofs.Common.{◌≡◌, ◌<◌, ℕ, zero, suc, List, [], Option, Result, Ok, Err, refl, arith, rules}
use Rattle.rpki_der.specs.declared.error.DecodeError.{DecodeError}
use Rattle.rpki_der.specs.Values.{AreOctets, IsUnambiguous}
use Rattle.rpki_der.specs.Reading.{Reads}
use Rattle.rpki_der.specs.Formats.{Format, Fields, IsLawful, SEQUENCE_WITH, fields, shut_then, then}
use Rattle.rpki_der.specs.Tags.{SEQUENCE}
use Rattle.rpki_der.specs.Answers.{AnswersBy, AnswersOrMemoryBy}
use Rattle.rpki_der.specs.Place.{Place, remaining, Keeps}
use Rattle.rpki_der.specs.Place.Reading.{TookBy, TookOrMemoryBy}
use Rattle.rpki_der.proofs.Answering.{answers, answers_or_memory}
use Rattle.rpki_der.proofs.BasicFormats.{object_identifier_lawful, boolean_default_false_lawful, octet_string_lawful}
use Rattle.rpki_der.proofs.BasicFormats.{null_lawful, time_lawful, serial_lawful, u32_lawful, unsigned_lawful}
use Rattle.rpki_der.proofs.BasicFormats.{bit_string_lawful, any_value_lawful, skippable_value_lawful}
pub use Rattle.rpki_der.proofs.FormatLaws.{IsAlone}
use Rattle.rpki_der.proofs.FormatLaws.{whatever_follows, one_meaning, any_octets_lawful, tagged_lawful, fields_lawful}
use Rattle.rpki_der.proofs.FormatLaws.{then_lawful, only_lawful, optional_lawful, present_lawful, list_lawful}
use Rattle.rpki_der.proofs.FormatLaws.{some_lawful}

-- a format is lawful where it is made by these
pub ruleset format_laws = (
  arith,
  rules,
  any_octets_lawful,
  tagged_lawful,
  fields_lawful,
  then_lawful,
  only_lawful,
  optional_lawful,
  present_lawful,
  list_lawful,
  some_lawful,
  object_identifier_lawful,
  boolean_default_false_lawful,
  octet_string_lawful,
  null_lawful,
  time_lawful,
  serial_lawful,
  u32_lawful,
  unsigned_lawful,
  bit_string_lawful,
  any_value_lawful,
  skippable_value_lawful,
)

-- such a format is read as it is encoded
pub alone_reads : {V : Type 0} (f : Format V) → IsAlone f → Reads f.read f.encodes
alone_reads f F = whatever_follows f F.none F.law

-- and is unambiguous
pub alone_means : {V : Type 0} (f : Format V) → IsAlone f → IsUnambiguous f.encodes
alone_means f F = one_meaning f F.none F.law

-- behind a format behind which anything may follow, any may stand
pub after_alone : {V W : Type 0} (f : Format V) (g : Format W) → IsAlone f → IsLawful g → IsLawful (then f g)
after_alone f g F G = then_lawful f g (rw F.none refl) F.law G

nothing_shut : (least : ℕ) → shut_then least [] [] ≡ []
nothing_shut zero = refl
nothing_shut (suc n) = refl

-- formats behind which anything may follow, one after the other
pub then_alone : {V W : Type 0} (f : Format V) (g : Format W) → IsAlone f → IsAlone g → IsAlone (then f g)
then_alone f g F G = record { law = after_alone f g F G.law; none = rw (F.none, G.none) (nothing_shut g.least) }

-- a SEQUENCE of fields that make a record, and of which they are made
pub sequence_lawful : {R X : Type 0} (make : X → R) (f : Fields R X) → ((x : X) → f.values (make x) ≡ x) →
    ((r : R) → make (f.values r) ≡ r) → IsLawful f.format → IsLawful (SEQUENCE_WITH make f)
sequence_lawful make f there back F = tagged_lawful SEQUENCE (fields make f) (omega arith) (omega arith) (fields_lawful make f there back F)

-- a reader that takes what such a format reads answers both ways
pub answers_alone : {X Y : Type 0} (view : X → Y) (f : Format Y) (old : Place) (r : Result X DecodeError)
    (new : Place) → IsAlone f → AreOctets (remaining old) → TookBy view f.read old r new → Keeps r old new →
    AnswersBy view f old r new
answers_alone view f old r new F fits took keeps =
    record {
      encoded = answers view f.read f.encodes (alone_reads f F) old r new fits took;
      reads = took;
      keeps =
          keeps;
    }

-- and so does one that may run out of memory
pub answers_or_memory_alone : {X Y : Type 0} (view : X → Y) (f : Format Y) (old : Place) (r : Result X DecodeError)
    (new : Place) → IsAlone f → AreOctets (remaining old) → TookOrMemoryBy view f.read old r new → Keeps r old new →
    AnswersOrMemoryBy view f old r new
answers_or_memory_alone view f old r new F fits took keeps =
    record {
      encoded = answers_or_memory view f.read f.encodes (alone_reads f F) old r new fits took;
      reads =
          took;
      keeps = keeps;
    }

-- the same of a format that isn't a name
pub answers_lawful : {X Y : Type 0} (view : X → Y) (f : Format Y) (old : Place) (r : Result X DecodeError)
    (new : Place) → f.shut ≡ [] → IsLawful f → AreOctets (remaining old) → TookBy view f.read old r new →
    Keeps r old new → AnswersBy view f old r new
answers_lawful view f old r new none F = answers_alone view f old r new (record { law = F; none = none })

-- and of its reader that may run out of memory
pub answers_or_memory_lawful : {X Y : Type 0} (view : X → Y) (f : Format Y) (old : Place) (r : Result X DecodeError)
    (new : Place) → f.shut ≡ [] → IsLawful f → AreOctets (remaining old) → TookOrMemoryBy view f.read old r new →
    Keeps r old new → AnswersOrMemoryBy view f old r new
answers_or_memory_lawful view f old r new none F = answers_or_memory_alone view f old r new (record { law = F; none = none })
