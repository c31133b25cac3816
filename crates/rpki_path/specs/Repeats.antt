-- Paths on which an issuer comes twice, and what stays of them without the certificates between
-- (own).
use Rattle.std.specs.Prelude.{◌≡◌, ◌<◌, ◌≤◌, ◌++◌, ℕ, Bool, take, drop, IsTrue, Contains}
use Rattle.rpki_cert.specs.Certificates.{TbsFields, CertFields}
use Rattle.rpki_cert.specs.Verification.{Context}
use Rattle.rpki_crl.specs.declared.revocation_error.RevocationError.{RevocationError}
use Rattle.rpki_path.specs.Asking.{RevocationChecks}
use Rattle.rpki_path.specs.NameChains.{NamesChain}
use Rattle.rpki_path.specs.Paths.{Path, Member, last, certificate_at, NumberKind, Holds, IsValidPath}

-- ---- who an issuer is

-- two certificates are of one entity: they have one key, and one subject if names are asked. A key
-- is compared by its format and bits, never by its identifier
abbrev pub AreOneEntity : Bool → CertFields → CertFields → Type 0
AreOneEntity names c d =
    (c.fields.key ≡ d.fields.key) × (IsTrue names → c.fields.subject ≡ d.fields.subject)

-- no two issuers of the path are of one entity. The last certificate issued none of it
abbrev pub HasNoRepeat : Bool → Path → Type 0
HasNoRepeat names p =
    (i j : ℕ) → i < j → j < last p
    → AreOneEntity names (certificate_at p i) (certificate_at p j) → ⊥

-- ---- what is asked of a path

-- the path is valid, and its names chain if names are asked
pub record IsWalkable (x : Context) (asked : RevocationChecks) (names : Bool) (p : Path) : Type 0 where
  pub is_valid : IsValidPath x asked p
  pub chained : IsTrue names → NamesChain p

-- two issuers have one key and one identifier, and one subject if names are asked
pub record AreAlike (names : Bool) (f g : TbsFields) : Type 0 where
  pub key_is : f.key ≡ g.key
  pub identifier_is : f.extensions.subject_key_identifier ≡ g.extensions.subject_key_identifier
  pub subject_is : IsTrue names → f.subject ≡ g.subject

-- who is asked for revocation looks at no more of an issuer than that
abbrev pub AsksByEntity : Bool → RevocationChecks → Type 0
AsksByEntity names asked =
    (f g : TbsFields) (c : CertFields) (e : RevocationError)
    → AreAlike names f g → asked f c e → asked g c e

-- ---- shorter paths

-- the path without the certificates at places i + 1 to j
abbrev pub without : Path → ℕ → ℕ → Path
without p i j = record { anchor = p.anchor; below = take i p.below ++ drop j p.below }

-- the second path has the trust anchor and some of the certificates of the first, ends in the same
-- one, and its last certificate holds what that of the first holds
pub record IsShortened (p q : Path) : Type 0 where
  pub anchor_is : q.anchor ≡ p.anchor
  pub members : (m : Member) → Contains q.below m → Contains p.below m
  pub fewer : last q ≤ last p
  pub end_is : certificate_at q (last q) ≡ certificate_at p (last p)
  pub holds : (k : NumberKind) (n : ℕ) → Holds p (last p) k n → Holds q (last q) k n
