-- What a walk keeps of an issuer, for all paths that lead to it (own).
use Rattle.std.specs.Prelude.{◌<◌, ℕ, Bool, List, length, Contains}
use Rattle.rpki_parts.specs.Signatures.{Verifies}
use Rattle.rpki_cert.specs.Certificates.{CertFields}
use Rattle.rpki_cert.specs.Verification.{Context}
use Rattle.rpki_folder.specs.Folders.{FolderFields, IsOnce}
use Rattle.rpki_folder.specs.IssuerLists.{AreIssuerLists}
use Rattle.rpki_folder.specs.NameTables.{IsOfKey}
use Rattle.rpki_folder.specs.Walks.{IsChildOf, IsNamedUnder}
use Rattle.rpki_folder.specs.declared.issuers.Issuer.{Issuer}
use Rattle.rpki_folder.specs.declared.issuers.Issuers.{Issuers}
use Rattle.rpki_folder.specs.declared.issuers.NamedKey.{NamedKey}

-- these are the places of the issuer's children; of those with its name, if names are asked
pub record AreAllChildren (names : Bool) (verifies : Verifies) (issuer : CertFields)
    (certs : List (List ℕ)) (places : List ℕ) : Type 0 where
  pub inside : (place : ℕ) → Contains places place → place < length certs
  pub named : (place : ℕ) → Contains places place → IsNamedUnder names issuer certs place
  pub child : (place : ℕ) → Contains places place → IsChildOf verifies issuer certs place
  pub all : (place : ℕ) → IsNamedUnder names issuer certs place
      → IsChildOf verifies issuer certs place → Contains places place
  pub once : IsOnce places

-- what is kept is that of this issuer
pub record IsKeptOf (names : Bool) (x : Context) (folder : FolderFields) (issuer : CertFields)
    (kept : Issuer) : Type 0 where
  pub children : AreAllChildren names x.verifies issuer folder.certs kept.children.items
  pub lists : AreIssuerLists names x folder.lists issuer.fields kept.lists

-- all that is kept of issuers and of keys is right
pub record AreIssuersKept (names : Bool) (x : Context) (folder : FolderFields) (table : Issuers) : Type 0 where
  pub issuers : (kept : Issuer) → Contains table.kept.items kept
      → IsKeptOf names x folder kept.cert kept
  pub keys : (kept : NamedKey) → Contains table.keys.items kept
      → IsOfKey x.verifies folder kept.cert kept
