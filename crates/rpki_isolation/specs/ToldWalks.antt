-- What a walk tells below the paths that are none of strangers, and when two walks tell alike of them
-- (own). Strangers of rpki_folder has what strangers add, and which paths these are.
use Rattle.std.specs.Prelude.{◌≡◌, ◌⊎◌, ◌↔◌, ◌+◌, ◌≤◌, ℕ, Bool, List, Any, Contains, Result, Ok, Err}
use Rattle.rpki_blocks.specs.Sets.{Has}
use Rattle.rpki_ext.specs.Kinds.{Means}
use Rattle.rpki_parts.specs.Keys.{KeyFields}
use Rattle.rpki_cert.specs.Certificates.{CertFields, IsCertificate}
use Rattle.rpki_cert.specs.Verification.{Context, ResourceFields}
use Rattle.rpki_crl.specs.declared.revocation_error.RevocationError.TheVariants.{NoCrl, BadSignature, Stale, WrongIssuer}
use Rattle.rpki_keys.specs.Locators.{NamedTal}
use Rattle.rpki_path.specs.AskedLists.{HaveNone, IsEligibleNamed, by_named_lists}
use Rattle.rpki_path.specs.declared.judging.Judged.{Judged}
use Rattle.rpki_path.specs.declared.path_fault.PathFault.{PathFault}
use Rattle.rpki_path.specs.declared.path_fault.PathFault.TheVariants.{Revocation}
use Rattle.rpki_path.specs.Paths.{Path, last, certificate_at, IsPathOf}
use Rattle.rpki_folder.specs.Folders.{FolderFields, cas_at}
use Rattle.rpki_folder.specs.Walks.{IsValidAnchor, StandsAt, Covers, Told, TellsFrom}
use Rattle.rpki_folder.specs.declared.bounds.Ended.{Ended}
use Rattle.rpki_folder.specs.declared.walk_error.WalkError.{WalkError}
use Rattle.rpki_isolation.specs.PathShares.{HasEnoughOn}

-- ---- trust anchors

-- octets of the folder begin with the certificate and are a valid trust anchor of the locator
pub record IsAnchorIn (x : Context) (names : Bool) (t : NamedTal) (folder : FolderFields)
    (c : CertFields) : Type 0 where
  pub octets : List ℕ
  pub among : Contains folder.certs octets
  pub begins : Means IsCertificate c octets
  pub is_valid : IsValidAnchor x (by_named_lists names x folder.lists) names t octets

-- ---- a walk, and what it told

-- the two octet strings begin with one certificate, as the files of one trust anchor do
abbrev pub BeginAlike : List ℕ → List ℕ → Type 0
BeginAlike one other =
    (c : CertFields) × Means IsCertificate c one × Means IsCertificate c other

-- a walk below this trust anchor, through the certificates of the folder that it lets in and with the
-- folder's lists, that ended, and what it told; whether names are asked is the caller's to say
pub record Walked (x : Context) (names : Bool) (admits : List ℕ → ℕ → Type 0) (t : NamedTal)
    (anchor : List ℕ) (folder : FolderFields) : Type 0 where
  pub depth : ℕ
  pub steps : ℕ
  pub ended : Ended
  pub verdicts : List Told
  pub tells : TellsFrom {E = WalkError} x (by_named_lists names x folder.lists) names admits t anchor
      folder.certs depth steps (Ok ended) verdicts

-- among what was told is this verdict on the certificate, below the CAs of the path
pub record HasToldVerdict (anchor : List ℕ) (certs : List (List ℕ)) (ts : List Told) (p : Path)
    (c : CertFields) (verdict : Result Judged PathFault) : Type 0 where
  pub above : List ℕ
  pub place : ℕ
  pub path_of : IsPathOf anchor (cas_at certs above) p
  pub stands : StandsAt certs place c
  pub among : Any (λ t. (t.above ≡ above) × (t.place ≡ place) × (t.verdict ≡ verdict)) ts

-- among what was told is that it is accepted there
abbrev pub IsToldAccepted : List ℕ → List (List ℕ) → List Told → Path → CertFields → Type 0
IsToldAccepted anchor certs ts p c = (j : Judged) × HasToldVerdict anchor certs ts p c (Ok j)

-- the walk looked at all below the path: its end says so; or the path's CAs have enough
abbrev pub HasLookedBelow : {x : Context} {names : Bool} {admits : List ℕ → ℕ → Type 0}
    {t : NamedTal} {anchor : List ℕ} {folder : FolderFields} → Path
    → Walked x names admits t anchor folder → Type 0
HasLookedBelow {x} {names} {admits} {t} {anchor} {folder} p w =
    Covers w.ended w.depth (last p + 1)
    ⊎ HasEnoughOn x names admits t anchor folder w.depth w.steps p

-- ---- paths that are none of theirs

-- no CA of the path, the trust anchor among them, has one of these keys
abbrev pub IsAllFreeOf : List KeyFields → Path → Type 0
IsAllFreeOf keys p = (i : ℕ) → i ≤ last p → Contains keys (certificate_at p i).fields.key → ⊥

-- ---- two verdicts on the certificate below the path

-- they are of one certificate, and hold the same numbers
pub record HoldAlike (r s : ResourceFields) : Type 0 where
  pub cert_is : r.cert ≡ s.cert
  pub v4_is : (n : ℕ) → Has r.v4 n ↔ Has s.v4 n
  pub v6_is : (n : ℕ) → Has r.v6 n ↔ Has s.v6 n
  pub as_is : (n : ℕ) → Has r.as_numbers n ↔ Has s.as_numbers n
  pub tal_is : r.tal ≡ s.tal

-- no list of the folder can be asked of the certificate below the last CA of the path
abbrev pub HasNoList : Bool → Context → FolderFields → Path → CertFields → Type 0
HasNoList names x folder p c =
    HaveNone (IsEligibleNamed names x.verifies x.now (certificate_at p (last p)).fields c)
    folder.lists

-- a fault that is told if no list can be asked. Which of these it is depends on the lists that can't
-- be
abbrev pub IsForWantOfList : PathFault → Type 0
IsForWantOfList (Revocation NoCrl) = Unit {0}
IsForWantOfList (Revocation BadSignature) = Unit {0}
IsForWantOfList (Revocation Stale) = Unit {0}
IsForWantOfList (Revocation WrongIssuer) = Unit {0}
IsForWantOfList _ = ⊥

-- two faults are one; or no list can be asked, and both are for want of one
abbrev pub AreAlikeFaults : Bool → Context → FolderFields → Path → CertFields → PathFault
    → PathFault → Type 0
AreAlikeFaults names x folder p c e f =
    (e ≡ f) ⊎ (IsForWantOfList e × IsForWantOfList f × HasNoList names x folder p c)

-- two verdicts say the same
abbrev pub SayAlike : Bool → Context → FolderFields → Path → CertFields → Result Judged PathFault
    → Result Judged PathFault → Type 0
SayAlike names x folder p c (Ok j) (Ok k) = HoldAlike j.holder k.holder × (j.router ≡ k.router)
SayAlike names x folder p c (Err e) (Err f) = AreAlikeFaults names x folder p c e f
SayAlike names x folder p c _ _ = ⊥
