-- Choices, both ways.
use Rattle.std.proofs.Common.{◌<◌, List, [], Option, Some, refl, sym, ap, subst, arith}
use Rattle.rpki_der.specs.BasicFormats.{null_format}
use Rattle.rpki_der.specs.Choices.{IsConversion}
use Rattle.rpki_der.specs.Formats.{Format, IsLawful, Follows, SEQUENCE_OF}
use Rattle.rpki_der.specs.Reading.{Reads, Inside, content}
use Rattle.rpki_der.specs.Sequences.{AreEncodings}
use Rattle.rpki_der.specs.Sequences.Reading.{sequence_of}
use Rattle.rpki_der.specs.Tags.{SEQUENCE}
use Rattle.rpki_der.proofs.BasicFormats.{null_lawful}
use Rattle.rpki_der.proofs.Choices.{content_shrinks, conversion_reads_whole, inside_begins, sequence_reads}
use Rattle.rpki_der.proofs.FormatAnswers.{IsAlone}
use Rattle.rpki_der.proofs.FormatChoices.{choice_lawful, image_lawful}
use Rattle.rpki_der.proofs.FormatLaws.{begins_with, list_lawful, whatever_follows}
use Rattle.rpki_der.proofs.Octets.{some, some_is}
use Rattle.rpki_der.proofs.Readings.{before, content_reads, same_reads}
use Rattle.rpki_blocks.specs.Sets.{Block}
use Rattle.rpki_blocks.specs.Resources.{Resources, inherit, listed}
use Rattle.rpki_blocks.specs.Unions.{IsUnion, IsUnionOf, blocks_of, is_set, union_format, inherit_format, resource_choice}
use Rattle.rpki_blocks.specs.Unions.Reading.{merged, union_of}
use Rattle.rpki_blocks.proofs.Unions.{is_union, union_is}

abbrev listed_of : List Block → Option Resources
listed_of bs = Some (listed (merged bs))

module _ (element : Format Block) (alone : IsAlone element) (positive : 0 < element.least) where
  -- a SEQUENCE of elements is lawful where these are
  pub elements_lawful : IsLawful (SEQUENCE_OF element)
  elements_lawful = list_lawful SEQUENCE element (omega arith) (omega arith) alone.none positive alone.law

  union_reads : Reads (content SEQUENCE (union_of element.read)) (IsUnionOf element)
  union_reads =
      let S = IsConversion listed_of (AreEncodings element.encodes) in
      same_reads (content SEQUENCE (union_of element.read)) (Inside SEQUENCE S) (IsUnionOf element)
      (content_reads SEQUENCE (union_of element.read) S
      (conversion_reads_whole listed_of (sequence_of element.read) (AreEncodings element.encodes)
      (sequence_reads element.read element.encodes (whatever_follows element alone.none alone.law)
      (λ octets v rest e. omega (arith, alone.law.shorter octets v rest e)))))
      (λ r b s. record {
        elements = s.1.0;
        encoded = (s.0, s.1.1, s.2);
        union =
            subst (λ (q : Resources). IsUnion s.1.0 q) (some_is (listed (merged s.1.0)) r s.1.2) (is_union s.1.0);
      })
      (λ r b s. (s.encoded.0, (s.elements, s.encoded.1, ap some (sym (union_is s.elements r s.union))), s.encoded.2))

  union_lawful : IsLawful (union_format element)
  union_lawful = record {
    reads = before (Follows []) (content SEQUENCE (union_of element.read)) (IsUnionOf element) union_reads;
    starts = λ r text s. let g = inside_begins SEQUENCE (AreEncodings element.encodes) s.elements text s.encoded in
        begins_with SEQUENCE g.0 text g.1;
    shorter = λ octets r rest e. omega (arith, content_shrinks SEQUENCE (union_of element.read) octets r rest e);
    octets = λ r fits short. elements_lawful.octets (blocks_of r) fits.2 short;
    made = λ r fits short. record {
      elements = blocks_of r;
      encoded = elements_lawful.made (blocks_of r) fits.2 short;
      union = record { chain = blocks_of r; is_chain = fits.1; same = λ n. refl; is = fits.0 };
    };
  }

  -- a choice is lawful where its elements are
  pub choice_alone : IsAlone (resource_choice element)
  unfolding resource_choice
  choice_alone = record {
    law = choice_lawful SEQUENCE is_set (union_format element) inherit_format refl refl refl refl (omega arith)
        (omega arith) union_lawful (image_lawful (λ _. Some inherit) (λ _. tt) null_format null_lawful);
    none = refl;
  }
