-- Why there is no verdict on a certificate among others: the status of the certificate whose key it names
-- as its signer's (own).
use Rattle.std.specs.Prelude.{◌≡◌, ◌+◌, ◌<◌, ◌≤◌, ◌&&◌, ℕ, Bool, true, false, if◌then◌else◌, List, length}
use Rattle.std.specs.Prelude.{is_none, nat_lt, unwrap_or, Option, None, Some}
use Rattle.std.specs.BTreeMap.{get}
use Rattle.std.specs.Cmp.Lexicographic.{slice_cmp}
use Rattle.std.specs.Ordering.{nat_cmp}
use Rattle.rpki_path.specs.declared.judging.Judged.{Judged}
use Rattle.rpki_folder.specs.Folders.{HasSubjectKey, NamesSigner, string_at}
use Rattle.rpki_folder.specs.LimitTables.{least}
use Rattle.rpki_folder.specs.declared.bounds.Limit.{Limit}
use Rattle.rpki_folder.specs.declared.limits.Reached.{Reached}
use Rattle.rpki_folder.specs.declared.lines.Line.{Line}
use Rattle.rpki_folder.specs.declared.lines.Line.TheVariants as line
use Rattle.rpki_folder.specs.declared.unseen.IssuersByKey.{IssuersByKey}
use Rattle.rpki_folder.specs.declared.unseen.IssuerStatus.{IssuerStatus}
use Rattle.rpki_folder.specs.declared.unseen.IssuerStatus.TheVariants as kind
use Rattle.rpki_folder.specs.declared.unseen.KnownIssuer.{KnownIssuer}
use Rattle.rpki_folder.specs.declared.unseen.Unseen.{Unseen}
use Rattle.rpki_folder.specs.declared.unseen.Unseen.TheVariants.{NoIssuer, NotBelow, NotCa, NotLookedAt}
use Rattle.rpki_folder.specs.declared.unseen.Unseen.TheVariants.{BelowRejected, BelowUnseen}

-- ---- the status of a certificate as an issuer

-- it was accepted as a CA's
abbrev pub is_ca : Judged → Bool
is_ca j = unwrap_or j.holder.cert.fields.extensions.basic_ca false && is_none j.router

-- how many paths lead to it as a CA, by its line
abbrev pub paths_by : Option Line → ℕ
paths_by (Some (line.Accepted paths)) =
    if is_ca paths.first.judged then length paths.others.items + paths.more + 1 else 0
paths_by _ = 0

-- The walk looked below it: it reached a limit there at fewer paths than lead to it, one more to the
-- trust anchor. What its key signed and the walk lets in has a verdict then, wherever else a limit was
-- reached
abbrev pub looked_below : Bool → Option Line → Reached → Bool
looked_below is_anchor kept reached =
    nat_lt reached.paths ((if is_anchor then 1 else 0) + paths_by kept)

-- the trust anchor or one that is accepted, by whether a walk looked below it, and by the limit that was
-- reached at it
abbrev pub accepted_status : Bool → Option Limit → IssuerStatus
accepted_status true limit = kind.LookedBelow
accepted_status false (Some limit) = kind.Limited limit
accepted_status false None = kind.NotCa

-- after a walk: the trust anchor, or another one by its line
abbrev pub status_of : Bool → Option Line → Reached → IssuerStatus
status_of true kept reached = accepted_status (looked_below true kept reached) (least reached)
status_of false (Some (line.Accepted paths)) reached =
    accepted_status (looked_below false (Some (line.Accepted paths)) reached) (least reached)
status_of false (Some (line.Rejected step fault)) reached = kind.Rejected
status_of false _ reached = kind.Unseen

-- the least number is best: so another certificate of the key, below which a walk looked, hides no
-- limit
abbrev pub status_rank : IssuerStatus → ℕ
status_rank (kind.Limited limit) = 0
status_rank kind.LookedBelow = 1
status_rank kind.Rejected = 2
status_rank kind.NotCa = 3
status_rank kind.Unseen = 4

-- ---- the issuer of a key

-- the certificate at the place is among the first n, has the key, and has this status; none that has the
-- key has a better one, and none before it as good a one
pub record IsKeyIssuer (certs : List (List ℕ)) (statuses : ℕ → IssuerStatus) (n : ℕ) (key : List ℕ)
    (issuer : KnownIssuer) : Type 0 where
  pub inside : issuer.place < n
  pub has_key : HasSubjectKey key (string_at certs issuer.place)
  pub status_is : issuer.status ≡ statuses issuer.place
  pub best : (k : ℕ) → k < n → HasSubjectKey key (string_at certs k)
      → status_rank issuer.status ≤ status_rank (statuses k)
  pub first : (k : ℕ) → k < issuer.place → HasSubjectKey key (string_at certs k)
      → status_rank issuer.status < status_rank (statuses k)

-- the issuer of a key among the first n certificates, or there none has the key
abbrev pub IsIssuerAmong : List (List ℕ) → (ℕ → IssuerStatus) → ℕ → List ℕ → Option KnownIssuer → Type 0
IsIssuerAmong certs statuses n key None = (k : ℕ) → k < n → HasSubjectKey key (string_at certs k) → ⊥
IsIssuerAmong certs statuses n key (Some issuer) = IsKeyIssuer certs statuses n key issuer

-- of each key
abbrev pub AreIssuersAmong : List (List ℕ) → (ℕ → IssuerStatus) → ℕ → IssuersByKey → Type 0
AreIssuersAmong certs statuses n table =
    (key : List ℕ) → IsIssuerAmong certs statuses n key (get (slice_cmp nat_cmp) table.issuers key)

-- the status is better than that of this issuer, where there is one
abbrev pub IsBetter : Option KnownIssuer → IssuerStatus → Type 0
IsBetter None status = Unit {0}
IsBetter (Some before) status = status_rank status < status_rank before.status

-- ---- certificates without a verdict

-- the issuer of the certificate with which the octets begin: that of the key which it names as its
-- signer's
abbrev pub IsIssuerOf : List (List ℕ) → (ℕ → IssuerStatus) → List ℕ → Option KnownIssuer → Type 0
IsIssuerOf certs statuses octets None =
    (key : List ℕ) → NamesSigner key octets → IsIssuerAmong certs statuses (length certs) key None
IsIssuerOf certs statuses octets (Some issuer) =
    (key : List ℕ) × NamesSigner key octets × IsKeyIssuer certs statuses (length certs) key issuer

-- why there is no verdict on a certificate with this issuer: a limit was reached there on each path to it;
-- a walk looked below it, so it isn't one that this CA issued; it is rejected; it is no CA; or it has no
-- verdict either
abbrev pub why_by : IssuerStatus → ℕ → Unseen
why_by (kind.Limited limit) place = NotLookedAt place limit
why_by kind.LookedBelow place = NotBelow place
why_by kind.Rejected place = BelowRejected place
why_by kind.NotCa place = NotCa place
why_by kind.Unseen place = BelowUnseen place

abbrev pub why_below : KnownIssuer → Unseen
why_below issuer = why_by issuer.status issuer.place

-- where there is one
abbrev pub why_with : Option KnownIssuer → Unseen
why_with None = NoIssuer
why_with (Some issuer) = why_below issuer

-- why there is no verdict on the certificate with which the octets begin, among certificates of these status
abbrev pub IsWhyUnseen : List (List ℕ) → (ℕ → IssuerStatus) → List ℕ → Unseen → Type 0
IsWhyUnseen certs statuses octets why =
    (issuer : Option KnownIssuer) × IsIssuerOf certs statuses octets issuer × (why ≡ why_with issuer)
