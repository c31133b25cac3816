-- What the octets of a file begin with, where what follows is ignored; and whether they are a list,
-- and nothing follows.
use Rattle.std.specs.Prelude.{◌≡◌, ◌≢◌, ◌⊎◌, ℕ, List, ◌∷◌, length, Option, Some, None}
use Rattle.rpki_der.specs.declared.error.DecodeError.TheVariants as decoding
use Rattle.rpki_der.specs.Encoding.{Begins, Means}
use Rattle.rpki_der.specs.Tags.{SEQUENCE}
use Rattle.rpki_der.specs.Values.{IsEnc}
use Rattle.rpki_cert.specs.Certificates.{CertFields, IsCertificate}
use Rattle.rpki_crl.specs.Lists.{CrlFields, IsCertificateList}
use Rattle.rpki_cert.specs.SaidKinds.{BeginsWithSaid}
use Rattle.rpki_files.specs.declared.bare.Front.{Front}
use Rattle.rpki_files.specs.declared.bare.Front.TheVariants as front
use Rattle.rpki_files.specs.declared.contents.Content.{Content}
use Rattle.rpki_files.specs.declared.contents.Content.TheVariants as content

-- a certificate
abbrev pub BeginsWithCertificate : List ℕ → Type 0
BeginsWithCertificate octets = (c : CertFields) × Means IsCertificate c octets

-- a revocation list
abbrev pub BeginsWithList : List ℕ → Type 0
BeginsWithList octets = (l : CrlFields) × Means IsCertificateList l octets

-- the octets are a revocation list, and none stands behind it: a file is asked as a list only so
-- (own), since what stands there may be a list that revokes
abbrev pub IsList : List ℕ → Type 0
IsList octets = (l : CrlFields) × IsCertificateList l octets

-- one of the two
abbrev pub BeginsWithEither : List ℕ → Type 0
BeginsWithEither octets = BeginsWithCertificate octets ⊎ BeginsWithList octets

-- the octets begin with an encoding of the value, behind which so many octets stand
abbrev pub BeginsBefore : {V : Type 0} → (V → List ℕ → Type 0) → List ℕ → V → ℕ → Type 0
BeginsBefore encodes octets v left = (rest : List ℕ) × Begins encodes octets v rest × (left ≡ length rest)

-- so many octets stand behind the certificate or the list that the octets begin with; none are told
-- where they begin with neither
abbrev pub StandBehind : List ℕ → ℕ → Type 0
StandBehind octets left =
    ((c : CertFields) × BeginsBefore IsCertificate octets c left)
    ⊎ (((l : CrlFields) × BeginsBefore IsCertificateList octets l left)
    ⊎ ((BeginsWithEither octets → ⊥) × (left ≡ 0)))

-- what octets were read as: the certificate or the list that they begin with, with the count of the
-- octets behind it; or they begin with neither, and the fault isn't that memory ran out
abbrev pub IsContent : List ℕ → Content → Type 0
IsContent octets (content.Certificate c left) = BeginsBefore IsCertificate octets c left × (BeginsWithList octets → ⊥)
IsContent octets (content.List l left) =
    BeginsBefore IsCertificateList octets l.list left × (BeginsWithCertificate octets → ⊥)
IsContent octets (content.Neither fault) = (fault ≢ decoding.Memory) × (BeginsWithEither octets → ⊥)

-- what is kept of a file among others, without what was read: a certificate, which says this of its
-- place in a folder, where the octets begin with one; a list, where they are one; or neither
abbrev pub IsFront : List ℕ → Front → Type 0
IsFront octets (front.Certificate said) = BeginsWithSaid said octets × (IsList octets → ⊥)
IsFront octets front.List = IsList octets × (BeginsWithCertificate octets → ⊥)
IsFront octets front.Neither = (BeginsWithCertificate octets → ⊥) × (IsList octets → ⊥)

-- what was looked for, seen by view: it is what the octets begin with, and so many octets stand
-- behind it; or they begin with none
abbrev pub FindsBefore : {X Y : Type 0} → (X → Y) → (Y → List ℕ → Type 0) → List ℕ → Option (X × ℕ) → Type 0
FindsBefore view encodes octets (Some found) = BeginsBefore encodes octets (view found.0) found.1
FindsBefore {X} {Y} view encodes octets None = (y : Y) → Means encodes y octets → ⊥

-- the first octet inside a SEQUENCE at the front of a SEQUENCE at the front of the octets
pub record HasFirstInside (first : ℕ) (octets : List ℕ) : Type 0 where
  pub outer : List ℕ
  pub inner : List ℕ
  pub rest : List ℕ
  pub begins : Means (IsEnc SEQUENCE) outer octets
  pub inside : Means (IsEnc SEQUENCE) inner outer
  pub first_is : inner ≡ first ∷ rest

-- the octets look like a list: that first octet is the tag of an INTEGER, as of a list's version
abbrev pub LooksLikeList : List ℕ → Type 0
LooksLikeList octets = HasFirstInside 0x02 octets
