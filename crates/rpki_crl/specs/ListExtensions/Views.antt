-- What contracts see of the extensions of a list that were seen so far.
use Rattle.std.specs.Prelude.{◌≡◌, ℕ, List, Bool, Option, Some, None, is_some, if◌then◌else◌, bytes_eq, false}
use Rattle.std.specs.List.{AllByRecursion}
use Rattle.rpki_der.specs.declared.error.Field.{Field}
use Rattle.rpki_der.specs.declared.error.Field.TheVariants as field
use Rattle.rpki_ext.specs.KindTables.{identifiers_of}
use Rattle.rpki_ext.specs.ExtensionKinds.{authority_key_identifier, crl_number, list_kinds}
use Rattle.rpki_crl.specs.declared.extensions.ListKind.{ListKind}
use Rattle.rpki_crl.specs.declared.extensions.ListKind.TheVariants.{AuthorityKeyIdentifier, CrlNumber}
use Rattle.rpki_crl.specs.declared.extensions.ReadListExtensions.{ReadListExtensions}
use Rattle.rpki_crl.specs.declared.extensions.CrlExtensions.{CrlExtensions}
use Rattle.rpki_crl.specs.ListExtensions.{ListExtensions, ListSights, list_extensions}

-- the kind that an identifier names, or none
abbrev pub NamesListKind : List ℕ → Option ListKind → Type 0
NamesListKind id (Some AuthorityKeyIdentifier) = id ≡ authority_key_identifier.identifier
NamesListKind id (Some CrlNumber) = id ≡ crl_number.identifier
NamesListKind id None = AllByRecursion (λ a. bytes_eq id a ≡ false) (identifiers_of list_kinds)

-- what errors call it
abbrev pub field_of : ListKind → Field
field_of AuthorityKeyIdentifier = field.AuthorityKeyIdentifier
field_of CrlNumber = field.CrlNumber

-- whether one of this kind was seen
abbrev pub is_seen : ReadListExtensions → ListKind → Bool
is_seen s AuthorityKeyIdentifier = is_some s.authority_key_identifier
is_seen s CrlNumber = is_some s.crl_number

-- the kind that errors name where not both were seen: the first of the two that wasn't
abbrev pub first_unseen : ReadListExtensions → ListKind
first_unseen s = if is_some s.authority_key_identifier then CrlNumber else AuthorityKeyIdentifier

-- what was seen of each kind, as the table has it
abbrev pub sights_of : ReadListExtensions → ListSights
sights_of s = (tt, (s.authority_key_identifier, (s.crl_number, tt)))

-- the fields that the code keeps of a list's extensions
abbrev pub extensions_view : CrlExtensions → ListExtensions
extensions_view x = list_extensions x.authority_key_identifier x.crl_number
