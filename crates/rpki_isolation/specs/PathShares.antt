-- How far a walk goes below the CAs of a path, whichever places these have in a folder (own). What a
-- share is stands in Walks of rpki_folder.
use Rattle.std.specs.Prelude.{◌≡◌, ◌⊎◌, ◌<◌, ℕ, Bool, List, [], length, Contains}
use Rattle.rpki_parts.specs.Keys.{KeyFields}
use Rattle.rpki_parts.specs.Signatures.{Verifies}
use Rattle.rpki_cert.specs.Certificates.{CertFields}
use Rattle.rpki_cert.specs.Verification.{Context, IsSignedBy, ResourceFields}
use Rattle.rpki_keys.specs.Locators.{NamedTal}
use Rattle.rpki_path.specs.AskedLists.{by_named_lists}
use Rattle.rpki_path.specs.Paths.{Path, last, certificate_at, IsPathOf}
use Rattle.rpki_folder.specs.Folders.{FolderFields, cas_at}
use Rattle.rpki_folder.specs.Walks.{at_anchor, members_at, LeadsTo, StandsAt, IsLookedAt, AreAdmitted, IsChildOf}
use Rattle.rpki_folder.specs.Walks.{AreChildren, HasShare, HasEnough}

-- ---- what is let in

-- a key other than these signed the certificate
abbrev pub IsOfOthers : Verifies → List KeyFields → CertFields → Type 0
IsOfOthers verifies keys c =
    (key : KeyFields) × (Contains keys key → ⊥) × IsSignedBy verifies key c.signed_data

-- each certificate of others that stands there is let in at a place, whichever CAs are above
abbrev pub LetsIn : Verifies → List KeyFields → List (List ℕ) → (List ℕ → ℕ → Type 0) → Type 0
LetsIn verifies keys certs admits =
    (c : CertFields) → IsOfOthers verifies keys c → (place : ℕ) → StandsAt certs place c
    → (above : List ℕ) → (first : ℕ) × StandsAt certs first c × admits above first

-- at no more than one: copies of it aren't let in
abbrev pub LetsInOnce : Verifies → List KeyFields → List (List ℕ) → (List ℕ → ℕ → Type 0) → Type 0
LetsInOnce verifies keys certs admits =
    (c : CertFields) → IsOfOthers verifies keys c → (above : List ℕ) (place other : ℕ)
    → StandsAt certs place c → StandsAt certs other c → admits above place → admits above other
    → place ≡ other

-- at one place
abbrev pub LetsInEach : Verifies → List KeyFields → List (List ℕ) → (List ℕ → ℕ → Type 0) → Type 0
LetsInEach verifies keys certs admits =
    LetsIn verifies keys certs admits × LetsInOnce verifies keys certs admits

-- each certificate of others stands at no more than one place: it has no copy
abbrev pub HasOthersOnce : Verifies → List KeyFields → List (List ℕ) → Type 0
HasOthersOnce verifies keys certs =
    (c : CertFields) → IsOfOthers verifies keys c → (place other : ℕ) → StandsAt certs place c
    → StandsAt certs other c → place ≡ other

-- ---- below a path

-- A walk through the folder, below this trust anchor and with the folder's lists, goes down the path:
-- the path's CAs stand at these places, each is looked at below those before it, and the path is valid
pub record GoesDown (x : Context) (names : Bool) (admits : List ℕ → ℕ → Type 0) (t : NamedTal)
    (anchor : List ℕ) (folder : FolderFields) (p : Path) : Type 0 where
  pub above : List ℕ
  pub path_of : IsPathOf anchor (cas_at folder.certs above) p
  pub looked : AreAdmitted (IsLookedAt names admits p.anchor folder.certs) [] above
  pub holder : ResourceFields
  pub leads : LeadsTo x (by_named_lists names x folder.lists) (at_anchor t anchor)
      (members_at (at_anchor t anchor) folder.certs above) holder

-- the certificate is a child of the path's last CA, and a walk looks at it there
pub record IsChildOn (x : Context) (names : Bool) (admits : List ℕ → ℕ → Type 0) (t : NamedTal)
    (anchor : List ℕ) (folder : FolderFields) (p : Path) (c : CertFields) : Type 0 where
  pub down : GoesDown x names admits t anchor folder p
  pub place : ℕ
  pub stands : StandsAt folder.certs place c
  pub looks : IsLookedAt names admits p.anchor folder.certs down.above place
  pub child : IsChildOf x.verifies (certificate_at p (last p)) folder.certs place

-- where a walk has so many steps, the last CA of the path has this share of them
pub record HasShareOn (x : Context) (names : Bool) (admits : List ℕ → ℕ → Type 0) (t : NamedTal)
    (anchor : List ℕ) (folder : FolderFields) (steps : ℕ) (p : Path) (share : ℕ) : Type 0 where
  pub down : GoesDown x names admits t anchor folder p
  pub has : HasShare x (by_named_lists names x folder.lists)
      (IsLookedAt names admits p.anchor folder.certs) (at_anchor t anchor) folder.certs [] steps
      down.above share

-- the last CA of the path is within the depth, and its share is enough: a walk with so many steps judges
-- its children
pub record HasEnoughOn (x : Context) (names : Bool) (admits : List ℕ → ℕ → Type 0) (t : NamedTal)
    (anchor : List ℕ) (folder : FolderFields) (depth steps : ℕ) (p : Path) : Type 0 where
  pub down : GoesDown x names admits t anchor folder p
  pub enough : HasEnough x (by_named_lists names x folder.lists)
      (IsLookedAt names admits p.anchor folder.certs) (at_anchor t anchor) folder.certs [] steps
      depth down.above

-- A walk of this depth and so many steps reaches a limit below the path: the last CA has so many
-- children and this share, and the depth is used up or the share is too small
pub record ReachesLimit (x : Context) (names : Bool) (admits : List ℕ → ℕ → Type 0) (t : NamedTal)
    (anchor : List ℕ) (folder : FolderFields) (depth steps : ℕ) (p : Path)
    (children share : ℕ) : Type 0 where
  pub down : GoesDown x names admits t anchor folder p
  pub has : HasShare x (by_named_lists names x folder.lists)
      (IsLookedAt names admits p.anchor folder.certs) (at_anchor t anchor) folder.certs [] steps
      down.above share
  pub places : List ℕ
  pub are_children : AreChildren x (by_named_lists names x folder.lists)
      (IsLookedAt names admits p.anchor folder.certs) (at_anchor t anchor) folder.certs down.above
      places
  pub count_is : children ≡ length places
  pub why : ((last p ≡ depth) × (0 < children)) ⊎ ((last p < depth) × (share < children))
