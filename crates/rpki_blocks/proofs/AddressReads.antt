-- IP addresses, both ways.
use Rattle.std.proofs.Common.{◌<◌, [], Some, refl, arith}
use Rattle.rpki_der.specs.BasicFormats.{bit_string, octet_string}
use Rattle.rpki_der.specs.FormatChoices.{image}
use Rattle.rpki_der.specs.Formats.{OPTIONAL}
use Rattle.rpki_der.specs.Tags.{SEQUENCE}
use Rattle.rpki_der.proofs.BasicFormats.{bit_string_lawful, octet_string_lawful}
use Rattle.rpki_der.proofs.FormatAnswers.{IsAlone}
use Rattle.rpki_der.proofs.FormatChoices.{choice_lawful, defined_by_lawful, image_lawful}
use Rattle.rpki_der.proofs.FormatLaws.{optional_lawful, tagged_lawful, then_lawful}
use Rattle.rpki_blocks.specs.declared.ip_resources.Family.{Family}
use Rattle.rpki_blocks.specs.Addresses.{ip_address_format, ip_address_range_format, ip_address_or_range_format, afi}
use Rattle.rpki_blocks.specs.Addresses.{family_of, ip_address_family_format, ip_addr_blocks_format}
use Rattle.rpki_blocks.specs.Unions.{resource_choice}
use Rattle.rpki_blocks.proofs.UnionReads.{choice_alone}

-- anything may follow an IPAddress
pub ip_address_alone : (family : Family) → IsAlone (ip_address_format family)
unfolding ip_address_format
ip_address_alone family = record { law = image_lawful _ _ bit_string bit_string_lawful; none = refl }

-- and an IPAddressRange
pub ip_address_range_alone : (family : Family) → IsAlone (ip_address_range_format family)
unfolding ip_address_range_format ip_address_format
ip_address_range_alone family =
    let address = (ip_address_alone family).law in
    record {
      law = tagged_lawful SEQUENCE _ (omega arith) (omega arith)
          (image_lawful
          _ _ _ (then_lawful (ip_address_format family) (ip_address_format family) refl address address));
      none =
          refl;
    }

-- and an IPAddressOrRange
pub ip_address_or_range_alone : (family : Family) → IsAlone (ip_address_or_range_format family)
unfolding ip_address_or_range_format ip_address_range_format ip_address_format
ip_address_or_range_alone family =
    record {
      law = choice_lawful SEQUENCE _ (ip_address_range_format family) (ip_address_format family) refl refl
          refl refl (omega arith) (omega arith) (ip_address_range_alone family).law (ip_address_alone family).law;
      none =
          refl;
    }

-- it has octets
pub some_octets : (family : Family) → 0 < (ip_address_or_range_format family).least
unfolding ip_address_or_range_format
some_octets family = omega arith

-- anything may follow an IPAddressFamily
pub ip_address_family_alone : IsAlone ip_address_family_format
unfolding ip_address_family_format resource_choice
ip_address_family_alone = record {
  law = tagged_lawful SEQUENCE _ (omega arith) (omega arith) (defined_by_lawful (image family_of afi octet_string) (λ x. x.0) []
      (λ family. image (λ r. Some (family, r)) (λ x. x.1) (resource_choice (ip_address_or_range_format family))) refl
      (omega arith) (λ family rest h. h)
      (image_lawful family_of afi octet_string octet_string_lawful)
      (λ family. image_lawful
      _ _ _ (choice_alone (ip_address_or_range_format family) (ip_address_or_range_alone family)
      (some_octets family)).law));
  none = refl;
}

-- and IPAddrBlocks
pub ip_alone : IsAlone ip_addr_blocks_format
unfolding ip_addr_blocks_format ip_address_family_format
ip_alone = record {
  law = image_lawful _ _ _ (tagged_lawful SEQUENCE _ (omega arith) (omega arith)
      (then_lawful ip_address_family_format (OPTIONAL SEQUENCE ip_address_family_format) refl
      ip_address_family_alone.law
      (optional_lawful SEQUENCE ip_address_family_format refl refl (omega arith) ip_address_family_alone.law)));
  none = refl;
}
