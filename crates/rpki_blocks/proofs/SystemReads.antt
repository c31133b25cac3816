-- AS numbers, both ways.
use Rattle.std.proofs.Common.{refl, arith}
use Rattle.rpki_der.specs.Tags.{SEQUENCE, CONTEXT_CONSTRUCTED}
use Rattle.rpki_der.specs.BasicFormats.{u32_format}
use Rattle.rpki_der.proofs.BasicFormats.{u32_lawful}
use Rattle.rpki_der.proofs.FormatAnswers.{IsAlone, format_laws}
use Rattle.rpki_der.proofs.FormatChoices.{choice_lawful, image_lawful, such_that_lawful}
use Rattle.rpki_der.proofs.FormatLaws.{tagged_lawful}
use Rattle.rpki_blocks.specs.Systems.{as_id_format, as_range_format, as_id_or_range_format, as_identifiers_format}
use Rattle.rpki_blocks.proofs.UnionReads.{choice_alone}

-- anything may follow an ASRange
pub as_range_alone : IsAlone as_range_format
unfolding as_range_format
as_range_alone = record { law = search (format_laws, such_that_lawful); none = refl }

-- and an ASIdOrRange
pub as_id_or_range_alone : IsAlone as_id_or_range_format
unfolding as_id_or_range_format as_range_format
as_id_or_range_alone =
    record {
      law = choice_lawful SEQUENCE _ as_range_format as_id_format refl refl refl refl (omega arith)
          (omega arith) as_range_alone.law (image_lawful _ _ u32_format u32_lawful);
      none = refl;
    }

-- anything may follow ASIdentifiers
pub as_alone : IsAlone as_identifiers_format
unfolding as_identifiers_format as_id_or_range_format
as_alone = record {
  law = tagged_lawful SEQUENCE _ (omega arith) (omega arith)
      (tagged_lawful (CONTEXT_CONSTRUCTED 0) _ (omega arith) (omega arith)
      (choice_alone as_id_or_range_format as_id_or_range_alone (omega arith)).law);
  none = refl;
}
