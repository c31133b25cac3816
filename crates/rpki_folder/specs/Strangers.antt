-- What strangers can't change by the files that they add to a folder: the paths on which no issuer
-- has a key of theirs (own).
use Rattle.std.specs.Prelude.{◌≡◌, ◌⊎◌, ◌+◌, ◌<◌, ℕ, Bool, List, Contains}
use Rattle.rpki_ext.specs.Kinds.{Means}
use Rattle.rpki_parts.specs.Keys.{KeyFields}
use Rattle.rpki_parts.specs.Signatures.{Verifies}
use Rattle.rpki_parts.specs.SignedDatas.{SignedFields}
use Rattle.rpki_cert.specs.Certificates.{CertFields, IsCertificate}
use Rattle.rpki_cert.specs.Verification.{Context, IsSignedBy}
use Rattle.rpki_crl.specs.Lists.{CrlFields, CrlState}
use Rattle.rpki_path.specs.AskedLists.{by_named_lists}
use Rattle.rpki_path.specs.Paths.{Path, last, certificate_at, IsValidPath}
use Rattle.rpki_folder.specs.Folders.{FolderFields}

-- ---- what is in a folder

-- octets of the folder begin with the certificate
abbrev pub HasCertificate : FolderFields → CertFields → Type 0
HasCertificate folder c =
    (octets : List ℕ) × Contains folder.certs octets × Means IsCertificate c octets

-- the list is one of the folder's
abbrev pub HasList : FolderFields → CrlFields → Type 0
HasList folder list = (l : CrlState) × Contains folder.lists l × (l.list ≡ list)

-- ---- what strangers add

-- whichever key signed it is one of these; so it is also if none did
abbrev pub IsSignedByOnly : Verifies → List KeyFields → SignedFields → Type 0
IsSignedByOnly verifies keys s = (key : KeyFields) → IsSignedBy verifies key s → Contains keys key

-- the algorithm inside of what is signed isn't the one outside (RFC 5280 4.1.1.2)
abbrev pub HasTwoAlgorithms : CertFields → Type 0
HasTwoAlgorithms c = c.fields.algorithm ≡ c.signed_data.signature.algorithm → ⊥

-- the second folder has all that the first has. Whatever else it has nobody signed, or only these
-- keys did; or it is a certificate of two algorithms, as a copy is whose outer one was changed. A
-- copy of a file, also one with octets behind it, is nothing else
pub record AddsOnly (verifies : Verifies) (keys : List KeyFields)
    (old new : FolderFields) : Type 0 where
  pub certs_stay : (c : CertFields) → HasCertificate old c → HasCertificate new c
  pub lists_stay : (l : CrlState) → Contains old.lists l → HasList new l.list
  pub certs_added : (c : CertFields) → HasCertificate new c
      → HasCertificate old c ⊎ (IsSignedByOnly verifies keys c.signed_data ⊎ HasTwoAlgorithms c)
  pub lists_added : (l : CrlState) → Contains new.lists l
      → HasList old l.list ⊎ IsSignedByOnly verifies keys l.list.signed_data

-- ---- paths that are none of theirs

-- no issuer of the path has one of these keys; the last certificate issued none of it
abbrev pub IsFreeOf : List KeyFields → Path → Type 0
IsFreeOf keys p = (i : ℕ) → i < last p → Contains keys (certificate_at p i).fields.key → ⊥

-- the path is valid with the lists of the folder, whose certificates are those below its trust
-- anchor; whether names are asked is the caller's to say
pub record LeadsThrough (names : Bool) (x : Context) (folder : FolderFields) (p : Path) : Type 0 where
  pub is_valid : IsValidPath x (by_named_lists names x folder.lists) p
  pub members : (i : ℕ) → i < last p → HasCertificate folder (certificate_at p (i + 1))
