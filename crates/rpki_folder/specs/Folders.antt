-- Folders of certificates and revocation lists, in no order (own).
use Rattle.std.specs.Prelude.{◌≡◌, ◌<◌, ℕ, List, [], ◌∷◌, ◌++◌, length, map, Some, Contains, slice_index_or}
use Rattle.rpki_ext.specs.Kinds.{Means}
use Rattle.rpki_cert.specs.Certificates.{CertFields, IsCertificate}
use Rattle.rpki_cert.specs.declared.inspect.Kind.TheVariants.{Authority}
use Rattle.rpki_crl.specs.Lists.{CrlFields, CrlState, IsCertificateList}
use Rattle.rpki_folder.specs.declared.folder.Added.{Added}
use Rattle.rpki_folder.specs.declared.folder.Added.TheVariants.{Certificate, List as list, Neither}
use Rattle.rpki_path.specs.Paths.{Candidate, candidate}

-- what a contract sees of a Folder: the octets that begin with certificates, and the revocation
-- lists, both in the order in which they were added. A certificate's place is its index
pub record FolderFields : Type 0 where
  pub certs : List (List ℕ)
  pub lists : List CrlState

abbrev pub empty : FolderFields
empty = record { certs = []; lists = [] }

-- with one certificate more, or one list
abbrev pub with_cert : FolderFields → List ℕ → FolderFields
with_cert f octets = record { certs = f.certs ++ octets ∷ []; lists = f.lists }

abbrev pub with_list : FolderFields → CrlState → FolderFields
with_list f l = record { certs = f.certs; lists = f.lists ++ l ∷ [] }

-- the octets at the place; none where there is no such place
abbrev pub string_at : List (List ℕ) → ℕ → List ℕ
string_at certs place = slice_index_or certs place []

-- the CAs at these places
abbrev pub cas_at : List (List ℕ) → List ℕ → List Candidate
cas_at certs places = map (λ place. candidate Authority (string_at certs place)) places

-- the octets begin with a certificate that names this key as the one that signs it
pub record NamesSigner (key octets : List ℕ) : Type 0 where
  pub cert : CertFields
  pub begins : Means IsCertificate cert octets
  pub names : cert.fields.extensions.authority_key_identifier ≡ Some key

-- the octets begin with a certificate whose own key has this identifier (RFC 5280 4.2.1.2)
pub record HasSubjectKey (key octets : List ℕ) : Type 0 where
  pub cert : CertFields
  pub begins : Means IsCertificate cert octets
  pub key_is : cert.fields.extensions.subject_key_identifier ≡ key

-- the octets at the two places begin with one certificate. Whatever is behind it doesn't count
abbrev pub AreOneAt : List (List ℕ) → ℕ → ℕ → Type 0
AreOneAt certs place other =
    (c : CertFields) × Means IsCertificate c (string_at certs place)
    × Means IsCertificate c (string_at certs other)

-- the place is the first of those whose octets begin with its certificate
abbrev pub IsFirst : List (List ℕ) → ℕ → Type 0
IsFirst certs place = (other : ℕ) → other < place → AreOneAt certs place other → ⊥

-- this is the first of the places whose octets begin with the certificate at the place
pub record IsFirstPlaceOf (certs : List (List ℕ)) (place first : ℕ) : Type 0 where
  pub one : AreOneAt certs place first
  pub is_first : IsFirst certs first

-- no element stands twice in the list
abbrev pub IsOnce : {X : Type 0} → List X → Type 0
IsOnce {X} [] = Unit {0}
IsOnce {X} (x ∷ xs) = (Contains xs x → ⊥) × IsOnce xs

-- these are the places of the certificates that name the key as the one that signs them, each once
pub record ArePlacesOf (certs : List (List ℕ)) (key places : List ℕ) : Type 0 where
  pub inside : (place : ℕ) → Contains places place → place < length certs
  pub only : (place : ℕ) → Contains places place → NamesSigner key (string_at certs place)
  pub all : (place : ℕ) → place < length certs → NamesSigner key (string_at certs place)
      → Contains places place
  pub once : IsOnce places

-- the octets begin with no certificate
abbrev pub BeginsNoCertificate : List ℕ → Type 0
BeginsNoCertificate octets = (c : CertFields) → Means IsCertificate c octets → ⊥

-- what was added of the octets, and at which place: the certificate with which they begin, whatever
-- is behind it; or else the list that they are, with nothing behind it (own: what is behind may be a
-- list that revokes)
abbrev pub IsAdded : List ℕ → FolderFields → FolderFields → Added → Type 0
IsAdded octets old new (Certificate place) =
    (new ≡ with_cert old octets) × (place ≡ length old.certs)
    × ((c : CertFields) × Means IsCertificate c octets)
IsAdded octets old new list =
    ((l : CrlState) × IsCertificateList l.list octets × (new ≡ with_list old l))
    × BeginsNoCertificate octets
IsAdded octets old new Neither =
    (new ≡ old) × BeginsNoCertificate octets
    × ((l : CrlFields) → IsCertificateList l octets → ⊥)
