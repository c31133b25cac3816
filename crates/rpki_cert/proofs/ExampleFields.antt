-- Fields that have an encoding.
use Rattle.std.proofs.Common.{ℕ, List, [], ◌∷◌, refl, arith, ◌<◌, ◌^◌, length, inl}
use Rattle.rpki_der.specs.Extensions.{extension_format}
use Rattle.rpki_der.specs.Tags.{SEQUENCE}
use Rattle.rpki_der.specs.Times.{Moment, IsMoment, time}
use Rattle.rpki_der.specs.Values.{enc, length_octets}
use Rattle.rpki_der.specs.Primitives.{number}
use Rattle.rpki_der.proofs.WrittenOctets.{literal}
use Rattle.rpki_blocks.specs.declared.overclaim.Overclaim.TheVariants.{Refuse}
use Rattle.rpki_blocks.specs.Resources.{inherit}
use Rattle.rpki_parts.specs.Algorithms.{algorithm_format, with_null}
use Rattle.rpki_parts.specs.Keys.{key_algorithm_format, key_identifier_format, public_key_format, whole_bits_format}
use Rattle.rpki_parts.specs.Validities.{validity_format}
use Rattle.rpki_parts.specs.declared.key.PublicKeyFormat.TheVariants.{Rsa}
use Rattle.rpki_parts.specs.Names.{name_format}
use Rattle.rpki_parts.proofs.DeeperNames.{empty_name}
use Rattle.rpki_ext.specs.declared.key_usage.KeyUsage.TheVariants.{Ee}
use Rattle.rpki_ext.proofs.CertificateExtensions.{inheriting_fits}
use Rattle.rpki_ext.specs.ExtensionKinds.{certificate_policies_format, key_usage_format}
use Rattle.rpki_ext.specs.ResourceKinds.{addresses_format}
use Rattle.rpki_cert.specs.Certificates.{TbsFields, tbs_content, tbs_content_format, version_format, Fits}
use Rattle.rpki_ext.specs.CertificateExtensions.{bare, extensions, HasResources}

abbrev year_2000 : Moment
year_2000 = record { year = 2000; month = 1; day = 1; hour = 0; minute = 0; second = 0 }

-- a name without parts
abbrev no_name : List ℕ
no_name = SEQUENCE ∷ 0 ∷ []

-- an identifier of a key
abbrev no_key : List ℕ
no_key = 0 ∷ 0 ∷ 0 ∷ 0 ∷ 0 ∷ 0 ∷ 0 ∷ 0 ∷ 0 ∷ 0 ∷ 0 ∷ 0 ∷ 0 ∷ 0 ∷ 0 ∷ 0 ∷ 0 ∷ 0 ∷ 0 ∷ 0 ∷ []

-- the fields of an example
abbrev pub some_fields : TbsFields
some_fields = record {
  serial = 1;
  algorithm = with_null;
  issuer = no_name;
  validity = record { not_before = year_2000; not_after = year_2000 };
  subject = no_name;
  key = record { format = Rsa; bits = [] };
  extensions = record (bare no_key Ee Refuse) { v4_resources = inherit };
}

is_moment : IsMoment year_2000
is_moment = record {
  year = omega arith;
  month = (omega arith, omega arith);
  day = (omega arith, omega arith);
  hour =
      omega arith;
  minute = omega arith;
  second = omega arith;
}

short : length (tbs_content some_fields) < 2 ^ 32
unfolding extensions enc length_octets number time tbs_content_format version_format algorithm_format name_format
    validity_format public_key_format key_algorithm_format whole_bits_format extension_format key_identifier_format
    key_usage_format certificate_policies_format addresses_format
short = omega arith

-- the fields of the example have an encoding
pub some_fit : Fits some_fields
some_fit = record {
  serial_is = omega arith;
  issuer_is = empty_name;
  not_before_is = is_moment;
  not_after_is = is_moment;
  subject_is = empty_name;
  key_is = tt;
  extensions_are = inheriting_fits no_key Ee Refuse (literal no_key refl, refl);
  short = short;
}

-- the example has resources
pub some_resources : HasResources some_fields.extensions
some_resources = inl (λ e. cc)
