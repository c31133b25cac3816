-- The extensions of a revocation list: two kinds, each exactly once, whatever their flags, and no
-- other (RFC 6487 5).
use Rattle.std.specs.Prelude.{◌≡◌, ◌<◌, ◌^◌, ◌++◌, ℕ, false, true, List, Option, Some}
use Rattle.std.specs.List.{AllByRecursion}
use Rattle.rpki_der.specs.Extensions.{Extension, IsExtension, extension, extension_format}
use Rattle.rpki_der.specs.Folding.{Fold, side_by_side, each_fold, over}
use Rattle.rpki_der.specs.FormatChoices.{primitive}
use Rattle.rpki_der.specs.Formats.{Format}
use Rattle.rpki_der.specs.Sequences.{AreEncodings}
use Rattle.rpki_der.specs.Tags.{SEQUENCE}
use Rattle.rpki_der.specs.Values.Reading.{◌>>=◌}
use Rattle.rpki_ext.specs.ExtensionKinds.{HasTwentyOctets, authority_key_identifier, crl_number, list_kinds}
use Rattle.rpki_ext.specs.Kinds.{ExtensionKind, Gives, is_of, flag_of, untested}
use Rattle.rpki_ext.specs.KindTables.{KindTable, Sights, no_kinds, kind, modes, identifiers_of, table_fold}
pub mod Views

-- the fields that the extensions of a revocation list give
pub record ListExtensions : Type 0 where
  pub authority_key_identifier : List ℕ
  pub crl_number : ℕ

-- a kind, whatever flag its extensions have (own)
abbrev pub with_any_flag : {V : Type 0} → ExtensionKind V → ExtensionKind V
with_any_flag k = record { identifier = k.identifier; flag = untested (flag_of k.flag); format = k.format }

-- the kinds of a table, whatever flags their extensions have
abbrev pub with_any_flags : KindTable → KindTable
with_any_flags no_kinds = no_kinds
with_any_flags (kind k t) = kind (with_any_flag k) (with_any_flags t)
with_any_flags (modes ks t) = modes (λ mode. with_any_flag (ks mode)) (with_any_flags t)

-- the kinds of a revocation list's extensions, whatever their flags
abbrev pub list_kinds_with_any_flag : KindTable
list_kinds_with_any_flag = with_any_flags list_kinds

-- what the extensions of a revocation list give: Authority Key Identifier and CRL Number, each
-- exactly once, and no others (RFC 6487 5)
pub record GiveListExtensions (xs : List Extension) (f : ListExtensions) : Type 0 where
  pub no_others : AllByRecursion (λ x. is_of (identifiers_of list_kinds) x ≡ true) xs
  pub authority_key_identifier_is : Gives (with_any_flag authority_key_identifier) xs (Some f.authority_key_identifier)
  pub crl_number_is : Gives (with_any_flag crl_number) xs (Some f.crl_number)

-- the octets are a sequence of extensions that give these values
abbrev pub AreExtensions : ListExtensions → List ℕ → Type 0
AreExtensions f elements = (xs : List Extension) × AreEncodings IsExtension xs elements × GiveListExtensions xs f

-- ---- how they are read

-- what was seen so far of each kind
abbrev pub ListSights : Type 0
ListSights = Unit {0} × Sights list_kinds_with_any_flag

-- one step a kind, side by side
abbrev pub list_fold : Fold Extension ListSights
list_fold = side_by_side (each_fold (is_of (identifiers_of list_kinds_with_any_flag))) (table_fold list_kinds_with_any_flag)

-- the fields of a key identifier and a CRL number
abbrev pub list_extensions : List ℕ → ℕ → ListExtensions
list_extensions identifier number = record { authority_key_identifier = identifier; crl_number = number }

-- both are there
abbrev pub both_seen : ListSights → Option ListExtensions
both_seen (_, (identifier, (number, _))) = do
  i ← identifier
  n ← number
  Some (list_extensions i n)

-- reads the extensions of a revocation list as the fields that they give
unfoldable pub list_extensions_of : List ℕ → Option ListExtensions
list_extensions_of octets = over extension_format.read list_fold.step list_fold.start octets >>= both_seen

-- ---- what is written (the order of the extensions is own)

-- Authority Key Identifier, then CRL Number, both without flag
abbrev pub list_sequence : ListExtensions → List ℕ
list_sequence x =
    extension authority_key_identifier.identifier false (authority_key_identifier.format.written x.authority_key_identifier)
    ++ extension crl_number.identifier false (crl_number.format.written x.crl_number)

-- both can be written
pub record FitListExtensions (x : ListExtensions) : Type 0 where
  pub identifier_is : HasTwentyOctets x.authority_key_identifier
  pub number_is : x.crl_number < 2 ^ 160

-- ---- the format

-- Extensions ::= SEQUENCE SIZE (1..MAX) OF Extension   (RFC 5280 4.1)
-- restricted to the two kinds (RFC 6487 5)
abbrev pub list_extensions_format : Format ListExtensions
list_extensions_format = primitive SEQUENCE list_extensions_of AreExtensions FitListExtensions list_sequence
