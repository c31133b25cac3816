-- What the files of a request are: the issuer's path, the subject's key, the issuer's list before,
-- what is revoked, what is completed (own).
use Rattle.std.specs.Prelude.{◌≡◌, ◌⊎◌, ◌<◌, ℕ, All, List, [], ◌∷◌, true, get_or, length, IsSome, Option, Some, None}
use Rattle.rpki_cert.specs.Certificates.{TbsFields, CertFields, IsCertificate}
use Rattle.rpki_path.specs.AskedLists.{by_named_lists}
use Rattle.rpki_path.specs.Asking.{RevocationChecks, nobody}
use Rattle.rpki_path.specs.declared.judging.Judged.{Judged}
use Rattle.rpki_keys.specs.KeyForms.{IsUsableKey}
use Rattle.rpki_parts.specs.Keys.{KeyFields, IsPublicKey}
use Rattle.rpki_cert.specs.declared.inspect.Kind.{Kind}
use Rattle.rpki_cert.specs.declared.inspect.Kind.TheVariants.{Anchor}
use Rattle.rpki_crl.specs.Lists.{CrlFields, CrlState, IsCertificateList}
use Rattle.rpki_cert.specs.Verification.{Context, ResourceFields}
use Rattle.rpki_files.specs.Contents.{IsList}
use Rattle.rpki_cert.specs.SaidKinds.{SaysAuthority, SaysKind}
use Rattle.rpki_verdicts.specs.PathFiles.{AreListsOf, Demands}
use Rattle.rpki_verdicts.specs.PathAnswers.{HoldSame, IsVerdictBy}
use Rattle.rpki_verdicts.specs.declared.path.Verdict.TheVariants.{Accepted}
use Rattle.rpki_issuing.specs.Issuers.{IsOwnList}

-- the octets of the objects of the files that a request names: those of the issuer's path, the
-- lists that it is judged with, those of the subject's key, of the list before, of what is revoked,
-- and the others
pub record InputFields : Type 0 where
  pub issuers : List (List ℕ)
  pub lists : List (List ℕ)
  pub keys : List (List ℕ)
  pub previous : List (List ℕ)
  pub revoked : List (List ℕ)
  pub files : List (List ℕ)

-- ---- who issues

-- no locator is asked for, and names have to chain
abbrev pub chained : Demands
chained = record { locators = []; names = true }

-- the files are accepted as a path, with these lists where there are some, and its last member is a
-- CA, which holds this
pub record IsHeldByLast (x : Context) (files lists : List (List ℕ)) (r : ResourceFields)
    : Type 0 where
  pub accepted : IsVerdictBy x chained files lists (Accepted (record { holder = r; router = None }))
  pub authority : SaysAuthority r.cert.fields

-- what is judged ends in no CA: in a router, or in an end entity
abbrev pub IsNoAuthority : Judged → Type 0
IsNoAuthority judged = IsSome judged.router ⊎ (SaysAuthority judged.holder.cert.fields → ⊥)

-- the CA that the path ends in, and what it holds; where there is no file, there is none
abbrev pub IsPathIssuer : Context → List (List ℕ) → List (List ℕ) → Option ResourceFields → Type 0
IsPathIssuer x files lists None = files ≡ []
IsPathIssuer x files lists (Some r) = IsHeldByLast x files lists r

-- the issuer is this one, and each file that is given as a list is one
abbrev pub IsRequestIssuer : Context → List (List ℕ) → List (List ℕ) → Option ResourceFields → Type 0
IsRequestIssuer x files lists issuer = All IsList lists × IsPathIssuer x files lists issuer

-- the file that is given as a list at this place is none
abbrev pub IsNoListAt : List (List ℕ) → ℕ → Type 0
IsNoListAt lists place = (place < length lists) × (IsList (get_or lists place []) → ⊥)

-- two are one: they have one certificate, and hold the same numbers
abbrev pub AreOneIssuer : Option ResourceFields → Option ResourceFields → Type 0
AreOneIssuer None None = Unit {0}
AreOneIssuer (Some r) (Some s) = HoldSame r s
AreOneIssuer _ _ = ⊥

-- the path has no other one
abbrev pub IsOnlyPathIssuer : Context → List (List ℕ) → List (List ℕ) → Option ResourceFields
    → Type 0
IsOnlyPathIssuer x files lists issuer =
    (other : Option ResourceFields) → IsPathIssuer x files lists other → AreOneIssuer other issuer

-- there is no other one
abbrev pub IsOnlyIssuer : Context → List (List ℕ) → List (List ℕ) → Option ResourceFields → Type 0
IsOnlyIssuer x files lists issuer =
    (other : Option ResourceFields) → IsRequestIssuer x files lists other → AreOneIssuer other issuer

-- ---- who is asked for revocation

-- it is so by who is asked for revocation: the files that are given as lists, as they were read,
-- whose issuers' names are compared; where there is none, nobody
abbrev pub IsSoAsked : Context → List (List ℕ) → (RevocationChecks → Type 0) → Type 0
IsSoAsked x [] Is = Is nobody
IsSoAsked x (list ∷ lists) Is =
    (read : List CrlState) × AreListsOf (list ∷ lists) read × Is (by_named_lists true x read)

-- ---- the key

-- there is one file, and it is the SubjectPublicKeyInfo of a key that the RPKI uses
pub record IsKeyFile (files : List (List ℕ)) (key : KeyFields) : Type 0 where
  pub octets : List ℕ
  pub alone : files ≡ octets ∷ []
  pub is_key : IsPublicKey key octets
  pub usable : IsUsableKey key

-- ---- the list before, and what is revoked

-- the octets are a list of the issuer
pub record IsOwnListIn (issuer : TbsFields) (octets : List ℕ) (list : CrlFields) : Type 0 where
  pub is_list : IsCertificateList list octets
  pub own : IsOwnList issuer list

-- there is one file, and it is a list of the issuer
pub record IsPreviousFile (issuer : TbsFields) (files : List (List ℕ)) (list : CrlFields)
    : Type 0 where
  pub octets : List ℕ
  pub alone : files ≡ octets ∷ []
  pub is_own : IsOwnListIn issuer octets list

-- the list before; where there is no file, there was none
abbrev pub IsPreviousOf : TbsFields → List (List ℕ) → Option CrlFields → Type 0
IsPreviousOf issuer files None = files ≡ []
IsPreviousOf issuer files (Some list) = IsPreviousFile issuer files list

-- the file is a certificate that names the issuer's key, with this serial number
pub record IsRevokedFile (issuer : TbsFields) (serial : ℕ) (octets : List ℕ) : Type 0 where
  pub cert : CertFields
  pub is_cert : IsCertificate cert octets
  pub names :
      cert.fields.extensions.authority_key_identifier
      ≡ Some issuer.extensions.subject_key_identifier
  pub serial_is : serial ≡ cert.fields.serial

-- ---- what is completed

-- as which kind it is completed: below an issuer as it says, and else as a trust anchor
abbrev pub IsCompletedAs : Option ResourceFields → TbsFields → Kind → Type 0
IsCompletedAs None f kind = kind ≡ Anchor
IsCompletedAs (Some issuer) f kind = SaysKind kind f
