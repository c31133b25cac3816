-- A walk from the trust anchor that was found, and what is kept of it.
use Rattle.std.specs.List.{AllByRecursion}
use Rattle.std.specs.Prelude.{Any, Bool, IsOk, Ok, Option, Some, slice_get}
use Rattle.std.proofs.Common.{◌≡◌, ◌+◌, ◌<◌, ◌++◌, ◌∷◌, ℕ, List, [], length, get_or, map, subst, sym}
use Rattle.std.proofs.lemmas.List.{length-map}
use Rattle.std.proofs.lemmas.List.Elements.{All-from_recursion}
use Rattle.std.proofs.lemmas.Option.{slice_get-get_or}
use Rattle.rpki_ext.specs.Kinds.{Means}
use Rattle.rpki_der.specs.Values.{IsUnambiguous}
use Rattle.rpki_cert.specs.Certificates.{CertFields, IsCertificate}
use Rattle.rpki_cert.specs.Verification.{Context, ResourceFields}
use Rattle.rpki_keys.specs.Locators.{NamedTal}
use Rattle.rpki_path.specs.Asking.{RevocationChecks}
use Rattle.rpki_path.specs.AskedLists.{by_named_lists}
use Rattle.rpki_folder.specs.FirstPlaces.{AreFirstsIn, IsFirstIn, first_place_of}
use Rattle.rpki_folder.specs.Folders.{FolderFields, string_at}
use Rattle.rpki_folder.specs.FoundAnchors.{IsFound}
use Rattle.rpki_folder.specs.KeptLines.{AreLines, IsLine, IsRejectedWithin}
use Rattle.rpki_folder.specs.KeptWalks.{IsAcceptedBy, IsKeptWalk}
use Rattle.rpki_folder.specs.Walks.{AreAdmitted, Covers, IsReached, IsTold}
use Rattle.rpki_folder.specs.LimitTables.{IsTableOf}
use Rattle.rpki_folder.specs.ReachedLimits.{AreLimited, AreLimitedFrom, LimitedCa}
use Rattle.rpki_folder.specs.Walks.{IsLookedAt, LeadsTo, Root, TellsBelow, TellsFrom, TellsWithin, Told, at_anchor}
use Rattle.rpki_folder.specs.Walks.{members_at}
use Rattle.rpki_folder.specs.declared.anchors.FoundAnchor.TheVariants.{Valid}
use Rattle.rpki_folder.specs.declared.bounds.Ended.{Ended}
use Rattle.rpki_folder.specs.declared.firsts.Firsts.{Firsts}
use Rattle.rpki_folder.specs.declared.limits.LimitTable.{LimitTable}
use Rattle.rpki_folder.specs.declared.lines.Line.{Line}
use Rattle.rpki_folder.specs.declared.lines.Line.TheVariants.{Accepted, Rejected, Unseen}
use Rattle.rpki_folder.specs.declared.walk_error.WalkError.{WalkError}
use Rattle.rpki_folder.proofs.AnchorSteps.{anchor_is}
use Rattle.rpki_folder.proofs.Descent.{there as inside_at}
use Rattle.rpki_folder.proofs.FirstPaths.{looked_firsts, reached_firsts, stands_first}

module _ (x : Context) (names : Bool) (t : NamedTal) (f : FolderFields) (depth steps place : ℕ)
    (issuer : ResourceFields) (firsts : Firsts) (law : IsUnambiguous IsCertificate) where
  abbrev asked : RevocationChecks
  asked = by_named_lists names x f.lists

  abbrev octets : List ℕ
  octets = string_at f.certs place

  abbrev LooksAt : CertFields → List ℕ → ℕ → Type 0
  LooksAt top = IsLookedAt names (IsFirstIn firsts) top f.certs

  module _ (found : IsFound x asked names t f.certs (Valid place issuer)) where
    pub tells_from : {E : Type 0} → (ended : Ended) (told : List Told) →
        TellsBelow {E = E} x asked (LooksAt issuer.cert) issuer f.certs [] depth steps (Ok ended) told →
        TellsFrom {E = WalkError} x asked names (IsFirstIn firsts) t octets f.certs depth steps (Ok ended) told
    tells_from ended told below = λ top begins.
        let tells = below (at_anchor t octets) found.0 in
        subst (λ (d : CertFields).
        TellsWithin {E = WalkError} x asked (LooksAt d) (at_anchor t octets) f.certs [] depth steps (Ok ended) told)
        (anchor_is x asked t octets issuer found.0 law top begins)
        (record {
          right = tells.right;
          let_in = tells.let_in;
          few = tells.few;
          short = tells.short;
          too_deep = tells.too_deep;
          complete = tells.complete;
          in_shares = tells.in_shares;
          judged = tells.judged;
          enough = tells.enough;
        })

    pub limited_from : (limited : List LimitedCa) →
        ((root : Root) → LeadsTo x asked root (members_at root f.certs []) issuer →
        AreLimited x asked (LooksAt issuer.cert) root f.certs depth steps limited) →
        AreLimitedFrom x asked names (IsFirstIn firsts) t octets f.certs depth steps limited
    limited_from limited are = λ top begins.
        subst (λ (d : CertFields). AreLimited x asked (LooksAt d) (at_anchor t octets) f.certs depth steps limited)
        (anchor_is x asked t octets issuer found.0 law top begins)
        (are (at_anchor t octets) found.0)

    -- what is kept of a walk that ended
    pub kept_walk : {E : Type 0} → (lines : List Line) (limits : LimitTable) (ended : Ended) (told : List Told)
        (limited : List LimitedCa) →
        AreFirstsIn f.certs firsts → length lines ≡ length f.certs → AreLines told lines →
        TellsBelow {E = E} x asked (LooksAt issuer.cert) issuer f.certs [] depth steps (Ok ended) told →
        ((root : Root) → LeadsTo x asked root (members_at root f.certs []) issuer →
        AreLimited x asked (LooksAt issuer.cert) root f.certs depth steps limited) →
        IsTableOf (first_place_of firsts place) (length f.certs) limited limits →
        IsKeptWalk x names t f depth steps place firsts lines limits ended
    unfolding tells_from limited_from
    kept_walk lines limits ended told limited are count kept below reached table = record {
      anchor_is = found.1;
      firsts_are = are;
      told = told;
      tells = tells_from ended told below;
      count_is = count;
      lines_are = kept;
      limited = limited;
      limited_are = limited_from limited reached;
      limits_are = table;
    }

-- ---- the lines are complete

-- what holds of each verdict holds of one of them
of_told : (P Q : Told → Type 0) (ts : List Told) → AllByRecursion P ts → Any Q ts → (t : Told) × P t × Q t
of_told P Q ts all h = (h.1, subst P h.3 (All-from_recursion P ts all h.0 h.1 h.2), h.4)

-- the line of a certificate that is accepted says so
line_accepts : (ts : List Told) (above : List ℕ) (place : ℕ) (l : Line) → IsLine ts place l → IsTold ts above place →
    IsAcceptedBy (Some l)
line_accepts ts above place Unseen h told =
    let w = of_told (λ t. t.place ≡ place → ⊥) (λ t. (t.above ≡ above) × (t.place ≡ place) × IsOk t.verdict) ts h
    told in absurd (w.1 w.2.1)
line_accepts ts above place (Accepted paths) h told = tt
line_accepts ts above place (Rejected n fault) h told =
    let w = of_told (IsRejectedWithin place n) (λ t. (t.above ≡ above) × (t.place ≡ place) × IsOk t.verdict) ts h.1
    told in absurd ((w.1 w.2.1).0 w.2.2)

pub complete_lines : (x : Context) (names : Bool) (t : NamedTal) (f : FolderFields) (depth steps anchor : ℕ)
    (firsts : Firsts) (lines : List Line) (limits : LimitTable) (ended : Ended) → IsUnambiguous IsCertificate →
    (top : CertFields) (above : List ℕ) (place : ℕ) →
    IsKeptWalk x names t f depth steps anchor firsts lines limits ended →
    Means IsCertificate top (string_at f.certs anchor) → Covers ended depth (length above + 1) →
    AreAdmitted (IsLookedAt names (λ l p. Unit {0}) top f.certs) [] (above ++ place ∷ []) →
    IsReached x (by_named_lists names x f.lists) (at_anchor t (string_at f.certs anchor)) f.certs above place →
    IsAcceptedBy (slice_get lines (first_place_of firsts place))
complete_lines x names t f depth steps anchor firsts lines limits ended law top above place k begins covers looked
    reached =
    let asked = by_named_lists names x f.lists in
    let octets = string_at f.certs anchor in
    let first = first_place_of firsts in
    let tells = k.tells top begins in
    let covered : Covers ended depth (length (map first above) + 1) =
    subst (λ (n : ℕ). Covers ended depth (n + 1)) (sym (length-map above first)) covers in
    let told = tells.complete (map first above) (first place) covered
    (looked_firsts law f.certs firsts k.firsts_are x asked t octets above place reached names top looked)
    (reached_firsts law f.certs firsts k.firsts_are x asked t octets above place reached) in
    let stands = stands_first law f.certs firsts k.firsts_are place reached.2.0 reached.2.1 in
    let low : first place < length lines = subst (λ (n : ℕ). first place < n) (sym k.count_is)
    (inside_at f.certs reached.2.0 (first place) stands) in
    subst (λ (o : Option Line). IsAcceptedBy o) (sym (slice_get-get_or lines (first place) Unseen low))
    (line_accepts k.told (map first above) (first place) (get_or lines (first place) Unseen)
    (k.lines_are (first place) Unseen low) told)
