-- Fields of a list that have an encoding.
use Rattle.std.proofs.Common.{ℕ, List, [], ◌∷◌, refl, arith, ◌<◌, ◌^◌, length}
use Rattle.rpki_der.specs.Tags.{SEQUENCE}
use Rattle.rpki_der.specs.Extensions.{extension_format}
use Rattle.rpki_der.specs.Primitives.{number}
use Rattle.rpki_der.specs.Times.{Moment, IsMoment, time}
use Rattle.rpki_der.specs.Values.{enc, length_octets}
use Rattle.rpki_der.proofs.WrittenOctets.{literal}
use Rattle.rpki_parts.specs.Algorithms.{algorithm_format, with_null}
use Rattle.rpki_parts.specs.Names.{name_format}
use Rattle.rpki_parts.proofs.DeeperNames.{empty_name}
use Rattle.rpki_ext.specs.ExtensionKinds.{authority_key_identifier_format}
use Rattle.rpki_crl.specs.Lists.{ListFields, ListFits, list_content, list_content_format, version_2}
use Rattle.rpki_crl.specs.RevokedEntries.{Revoked, no_entries, revoked_format}

abbrev year_2000 : Moment
year_2000 = record { year = 2000; month = 1; day = 1; hour = 0; minute = 0; second = 0 }

-- a name without parts
abbrev no_name : List ℕ
no_name = SEQUENCE ∷ 0 ∷ []

-- an identifier of a key
abbrev no_key : List ℕ
no_key = 0 ∷ 0 ∷ 0 ∷ 0 ∷ 0 ∷ 0 ∷ 0 ∷ 0 ∷ 0 ∷ 0 ∷ 0 ∷ 0 ∷ 0 ∷ 0 ∷ 0 ∷ 0 ∷ 0 ∷ 0 ∷ 0 ∷ 0 ∷ []

-- the fields of an example
abbrev pub some_list : ListFields Revoked
some_list = record {
  algorithm = with_null;
  issuer = no_name;
  this_update = year_2000;
  next_update = year_2000;
  revoked = no_entries;
  extensions = record { authority_key_identifier = no_key; crl_number = 0 };
}

is_moment : IsMoment year_2000
is_moment = record {
  year = omega arith;
  month = (omega arith, omega arith);
  day = (omega arith, omega arith);
  hour =
      omega arith;
  minute = omega arith;
  second = omega arith;
}

short : length (list_content some_list) < 2 ^ 32
unfolding list_content_format version_2 algorithm_format name_format revoked_format extension_format
    authority_key_identifier_format enc length_octets number time
short = omega arith

-- the fields of the example have an encoding
pub some_list_fits : ListFits some_list
some_list_fits = record {
  issuer_is = empty_name;
  this_update_is = is_moment;
  next_update_is = is_moment;
  entries_are = refl;
  identifier_is = (literal no_key refl, refl);
  number_is = omega arith;
  short = short;
}
