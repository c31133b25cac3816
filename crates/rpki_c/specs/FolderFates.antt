-- What becomes of strings, which are certificates and revocation lists in any order, below the
-- trust anchor among them that is a locator's (own).
use Rattle.std.specs.Prelude.{◌≡◌, ◌==◌, ◌<◌, ℕ, Bool, List, ◌∷◌, length, map, slice_get, slice_index_or}
use Rattle.std.specs.Prelude.{if◌then◌else◌}
use Rattle.rpki_ext.specs.Kinds.{Means}
use Rattle.rpki_cert.specs.Certificates.{CertFields, IsCertificate}
use Rattle.rpki_cert.specs.Verification.{Context}
use Rattle.rpki_crl.specs.Lists.{CrlState, IsCertificateList}
use Rattle.rpki_path.specs.AskedLists.{by_named_lists}
use Rattle.rpki_path.specs.LocatedPaths.{BeginsWithKey}
use Rattle.rpki_path.specs.declared.judging.Judged.{Judged}
use Rattle.rpki_path.specs.declared.path_fault.PathFault.{PathFault}
use Rattle.rpki_keys.specs.Locators.{NamedTal, TalFields}
use Rattle.rpki_folder.specs.FirstPlaces.{first_place_of}
use Rattle.rpki_folder.specs.Folders.{FolderFields, string_at, BeginsNoCertificate}
use Rattle.rpki_folder.specs.FoundAnchors.{HasNoValid}
use Rattle.rpki_folder.specs.KeptWalks.{IsKeptWalk}
use Rattle.rpki_folder.specs.LimitTables.{nothing, reached_at}
use Rattle.rpki_folder.specs.UnseenCertificates.{AreIssuersAmong, IsWhyUnseen, status_of}
use Rattle.rpki_folder.specs.UsualBounds.{usual_steps}
use Rattle.rpki_folder.specs.declared.bounds.Ended.{Ended}
use Rattle.rpki_folder.specs.declared.firsts.Firsts.{Firsts}
use Rattle.rpki_folder.specs.declared.folder.Added.{Added}
use Rattle.rpki_folder.specs.declared.folder.Added.TheVariants.{Certificate, List as list_added, Neither}
use Rattle.rpki_folder.specs.declared.limits.LimitTable.{LimitTable}
use Rattle.rpki_folder.specs.declared.limits.Reached.{Reached}
use Rattle.rpki_folder.specs.declared.lines.Line.{Line}
use Rattle.rpki_folder.specs.declared.lines.Line.TheVariants.{Unseen, Accepted, Rejected}
use Rattle.rpki_folder.specs.declared.unseen.IssuersByKey.{IssuersByKey}
use Rattle.rpki_folder.specs.declared.unseen.IssuerStatus.{IssuerStatus}
use Rattle.rpki_folder.specs.declared.unseen.Unseen.{Unseen as Why}
use Rattle.rpki_folder.specs.declared.unseen.Unseen.TheVariants as why
use Rattle.rpki_c.specs.FolderQuestions.{asked_or}
use Rattle.rpki_c.specs.Strings.{AreKeptAmong}
use Rattle.rpki_c.specs.Verdicts.{AreNoList}
use Rattle.rpki_c.specs.declared.folder_lines.WalkLines.{WalkLines}
use Rattle.rpki_c.specs.declared.sorting.Sorted.{Sorted}
pub mod Steps

-- ---- strings

-- the octets are taken for this list: they are it, and begin with no certificate
pub record IsTakenFor (octets : List ℕ) (l : CrlState) : Type 0 where
  pub list_is : IsCertificateList l.list octets
  pub no_certificate : BeginsNoCertificate octets

-- the octets are taken for no list
abbrev pub IsTakenForNoList : List ℕ → Type 0
IsTakenForNoList octets = (l : CrlState) → IsTakenFor octets l → ⊥

-- these are the lists for which strings are taken, in the order of the strings
abbrev pub AreListsAmong : List (List ℕ) → List CrlState → Type 0
AreListsAmong = AreKeptAmong IsTakenForNoList IsTakenFor

-- it is the string, which begins with a certificate
abbrev pub IsFiledAs : List ℕ → List ℕ → Type 0
IsFiledAs octets filed = (filed ≡ octets) × ((c : CertFields) × Means IsCertificate c octets)

-- these are the strings that begin with certificates, in their order
abbrev pub AreCertificatesAmong : List (List ℕ) → List (List ℕ) → Type 0
AreCertificatesAmong = AreKeptAmong BeginsNoCertificate IsFiledAs

-- the string at the place is the first that begins with a certificate of the locator's key
pub record IsFirstWithKey (t : TalFields) (strings : List (List ℕ)) (place : ℕ) : Type 0 where
  pub inside : place < length strings
  pub has_key : BeginsWithKey t (string_at strings place)
  pub none_before : (i : ℕ) → i < place → BeginsWithKey t (string_at strings i) → ⊥

-- no string begins with one
abbrev pub NoneHasKey : TalFields → List (List ℕ) → Type 0
NoneHasKey t strings = (i : ℕ) → i < length strings → BeginsWithKey t (string_at strings i) → ⊥

-- no string is a valid trust anchor of the locator, and the one at the place is the first that has its
-- key
pub record HasNoFolderAnchor (x : Context) (names : Bool) (t : NamedTal) (strings : List (List ℕ))
    (place : ℕ) : Type 0 where
  pub first : IsFirstWithKey t.tal strings place
  pub lists : List CrlState
  pub lists_are : AreListsAmong strings lists
  pub none : HasNoValid x (by_named_lists names x lists) names t strings

-- ---- sorting

-- the octets are what they were added as
abbrev pub IsAddedAs : List ℕ → Added → Type 0
IsAddedAs octets (Certificate place) = (c : CertFields) × Means IsCertificate c octets
IsAddedAs octets list_added = (l : CrlState) × IsTakenFor octets l
IsAddedAs octets Neither = BeginsNoCertificate octets × AreNoList octets

-- the strings are sorted into the folder: what each was added as, and at each certificate's place
-- the place of its string, in the order of the strings
pub record AreSorted (strings : List (List ℕ)) (f : FolderFields) (added : List Added) (origins : List ℕ) : Type 0 where
  pub count : length added ≡ length strings
  pub origin_count : length origins ≡ length f.certs
  pub inside : (place d : ℕ) → place < length f.certs → slice_index_or origins place d < length strings
  pub ascend : (place other d e : ℕ) → place < other → other < length f.certs
      → slice_index_or origins place d < slice_index_or origins other e
  pub came_from : (place d : ℕ) → place < length f.certs
      → string_at strings (slice_index_or origins place d) ≡ string_at f.certs place
  pub begins : (i : ℕ) (d : Added) → i < length strings → IsAddedAs (string_at strings i) (slice_index_or added i d)
  pub placed : (i place : ℕ) (d : Added) → i < length strings → slice_index_or added i d ≡ Certificate place
      → (place < length f.certs) × ((e : ℕ) → slice_index_or origins place e ≡ i)
  pub lists_are : AreListsAmong strings f.lists
  pub certs_are : AreCertificatesAmong strings f.certs

abbrev pub AreSortedIn : List (List ℕ) → Sorted → Type 0
AreSortedIn strings s = AreSorted strings s.folder s.added.items s.origins.items

-- its own strings
abbrev pub IsSorted : Sorted → Type 0
IsSorted s = AreSortedIn s.strings.now s

-- the string that the certificate at a place was; behind the last one a place behind all strings
abbrev pub origin_of : Sorted → ℕ → ℕ
origin_of s place = slice_index_or s.origins.items place (length s.added.items)

-- ---- fates

-- what becomes of a string: it is the trust anchor or a copy of it, a list, neither a list nor a certificate, or
-- a certificate without a verdict; or one that is accepted, below the CAs at these places, and judged so; or
-- one that is rejected, at this step below the trust anchor
pub data Fate : Type 0 where
  anchor list neither unseen : Fate
  accepted : List ℕ → Judged → Fate
  rejected : ℕ → PathFault → Fate

-- ---- what is kept of verdicts

-- strings that are sorted into a folder, and what is kept of a walk over it, from the trust anchor at a place
pub record StringWalk : Type 0 where
  pub sorted : Sorted
  pub anchor : ℕ
  pub firsts : Firsts
  pub kept : List Line
  pub limits : LimitTable

-- by which the lines are
abbrev pub seen : WalkLines → StringWalk
seen w = record {
  sorted = w.sorted.now;
  anchor = w.anchor;
  firsts = w.firsts.now;
  kept = w.kept.now;
  limits = w.limits.now;
}

-- of a certificate, by the strings of the CAs above it
abbrev pub kept_fate : (ℕ → ℕ) → Line → Fate
kept_fate origin Unseen = unseen
kept_fate origin (Accepted paths) = accepted (map origin paths.first.above.items) paths.first.judged
kept_fate origin (Rejected step fault) = rejected step fault

-- of the certificate at a place of the folder: that of its first place, or the trust anchor's
abbrev pub cert_fate : StringWalk → ℕ → Fate
cert_fate w place =
    let first = first_place_of w.firsts place in
    if first == first_place_of w.firsts w.anchor then anchor else
    kept_fate (origin_of w.sorted) (slice_index_or w.kept first Unseen)

-- of what was added
abbrev pub added_fate : StringWalk → Added → Fate
added_fate w (Certificate place) = cert_fate w place
added_fate w list_added = list
added_fate w Neither = neither

-- of the string at a place
abbrev pub fate_at : StringWalk → ℕ → Fate
fate_at w place = added_fate w (slice_index_or w.sorted.added.items place Neither)

-- the limits that were reached at the certificate at a place of the folder: those at its first place
abbrev pub cert_reached : StringWalk → ℕ → Reached
cert_reached w place = reached_at w.limits (first_place_of w.firsts place)

-- at what was added
abbrev pub added_reached : StringWalk → Added → Reached
added_reached w (Certificate place) = cert_reached w place
added_reached w list_added = nothing
added_reached w Neither = nothing

-- at the string at a place
abbrev pub line_reached_at : StringWalk → ℕ → Reached
line_reached_at w place = added_reached w (slice_index_or w.sorted.added.items place Neither)

-- ---- why there is no verdict

-- the status of the certificate at a place of the folder as an issuer, after the walk
abbrev pub cert_status : StringWalk → ℕ → IssuerStatus
cert_status w place =
    let first = first_place_of w.firsts place in
    status_of (first == first_place_of w.firsts w.anchor) (slice_get w.kept first)
    (reached_at w.limits first)

-- with the string of the issuer in place of its certificate in the folder
abbrev pub moved : (ℕ → ℕ) → Why → Why
moved origin why.NoIssuer = why.NoIssuer
moved origin (why.NotBelow place) = why.NotBelow (origin place)
moved origin (why.NotCa place) = why.NotCa (origin place)
moved origin (why.NotLookedAt place limit) = why.NotLookedAt (origin place) limit
moved origin (why.BelowRejected place) = why.BelowRejected (origin place)
moved origin (why.BelowUnseen place) = why.BelowUnseen (origin place)

-- of each key the issuer among all certificates of the folder
abbrev pub AreCertIssuers : StringWalk → IssuersByKey → Type 0
AreCertIssuers w issuers =
    AreIssuersAmong w.sorted.folder.certs (cert_status w) (length w.sorted.folder.certs) issuers

-- why there is no verdict on the certificate at a place of the folder
abbrev pub IsCertWhy : StringWalk → ℕ → Why → Type 0
IsCertWhy w place why =
    let certs = w.sorted.folder.certs in (below : Why)
    × IsWhyUnseen certs (cert_status w) (string_at certs place) below
    × (why ≡ moved (origin_of w.sorted) below)

-- on what was added
abbrev pub IsAddedWhy : StringWalk → Added → Why → Type 0
IsAddedWhy w (Certificate place) why = IsCertWhy w place why
IsAddedWhy w list_added why = ⊥
IsAddedWhy w Neither why = ⊥

-- on the string at a place
abbrev pub IsWhyAt : StringWalk → ℕ → Why → Type 0
IsWhyAt w place why = IsAddedWhy w (slice_index_or w.sorted.added.items place Neither) why

-- ---- the walk

-- These are the lines of the strings at a moment: the strings are sorted into a folder, over which a walk
-- went from the locator's trust anchor, and ended so. The lists among the strings are asked for
-- revocation, which have to have their issuers' names if names are asked (RFC 5280 6.3.3 (b) (1)); the
-- steps are those that are asked for, or else the usual ones
pub record IsWalkedFolder (x : Context) (names : Bool) (t : NamedTal) (strings : List (List ℕ))
    (depth steps : ℕ) (w : StringWalk) (ended : Ended) : Type 0 where
  pub sorted : AreSortedIn strings w.sorted
  pub kept : IsKeptWalk x names t w.sorted.folder depth (asked_or steps usual_steps) w.anchor
      w.firsts w.kept w.limits ended
