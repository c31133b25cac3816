-- The certificates that name a key, by their issuers' names (own: so that each of the names of one key
-- looks at its own certificates alone).
use Rattle.std.specs.Prelude.{◌≡◌, ◌<◌, ◌↔◌, ℕ, Bool, List, length, Contains, IsTrue}
use Rattle.rpki_parts.specs.Signatures.{Verifies}
use Rattle.rpki_cert.specs.Certificates.{CertFields}
use Rattle.rpki_folder.specs.Folders.{FolderFields, string_at, NamesSigner, ArePlacesOf, IsOnce}
use Rattle.rpki_folder.specs.IssuerLists.{ArePicked, HasSigned}
use Rattle.rpki_folder.specs.KeyTables.{places_in}
use Rattle.rpki_folder.specs.Walks.{StandsAt, IsNamedUnder}
use Rattle.rpki_folder.specs.declared.issuers.NamedKey.{NamedKey}
use Rattle.rpki_folder.specs.declared.names.NameTable.{NameTable}

-- the certificate at the place has this issuer's name
abbrev pub HasIssuer : List ℕ → List (List ℕ) → ℕ → Type 0
HasIssuer name certs place = (c : CertFields) × StandsAt certs place c × (c.fields.issuer ≡ name)

-- under each name the table has those of the places whose certificates have this issuer's name
abbrev pub AreByIssuer : List (List ℕ) → List ℕ → NameTable → Type 0
AreByIssuer certs places table =
    (name : List ℕ) → ArePicked (HasIssuer name certs) places (places_in table.places name)

-- these are places of certificates that name the issuer's key as the one that signs them, each once;
-- among them is each that has its name, if names are asked
pub record ArePlacesUnder (names : Bool) (issuer : CertFields) (certs : List (List ℕ))
    (places : List ℕ) : Type 0 where
  pub inside : (place : ℕ) → Contains places place → place < length certs
  pub only : (place : ℕ) → Contains places place
      → NamesSigner issuer.fields.extensions.subject_key_identifier (string_at certs place)
  pub all : (place : ℕ) → place < length certs
      → NamesSigner issuer.fields.extensions.subject_key_identifier (string_at certs place)
      → IsNamedUnder names issuer certs place → Contains places place
  pub once : IsOnce places

-- what is kept is that of the issuer's key: the certificates that name it, and whether it signed one of
-- the lists that name it
pub record IsOfKey (verifies : Verifies) (folder : FolderFields) (issuer : CertFields)
    (kept : NamedKey) : Type 0 where
  pub places : List ℕ
  pub are_places : ArePlacesOf folder.certs issuer.fields.extensions.subject_key_identifier places
  pub by_issuer : AreByIssuer folder.certs places kept.certs
  pub signed : IsTrue kept.has_signed ↔ HasSigned verifies folder.lists issuer.fields
