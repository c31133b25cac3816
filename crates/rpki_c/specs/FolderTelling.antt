-- What is answered to a question about a folder, and what a caller is told of it (own).
use Rattle.std.specs.Prelude.{◌≡◌, ◌≢◌, ◌⊎◌, ◌+◌, ◌<◌, ℕ, Bool, List, [], ◌∷◌, length, slice_index_or, Result, Ok, Err}
use Rattle.rpki_parts.specs.Signatures.{Verifies}
use Rattle.rpki_cert.specs.SaidKinds.{BeginsWithKind}
use Rattle.rpki_cert.specs.Verification.{Context, context}
use Rattle.rpki_cert.specs.declared.inspect.Kind.{Kind}
use Rattle.rpki_keys.specs.LocatorFaults.{RejectsTal}
use Rattle.rpki_keys.specs.Locators.{NamedTal, IsLocator}
use Rattle.rpki_crl.specs.Lists.{CrlState}
use Rattle.rpki_path.specs.AskedLists.{by_named_lists}
use Rattle.rpki_path.specs.LocatedPaths.{BeginsWithNoNumber}
use Rattle.rpki_path.specs.Paths.{Finds, trust_anchor_demand}
use Rattle.rpki_path.specs.declared.judging.Judged.{Judged}
use Rattle.rpki_path.specs.declared.path_fault.PathFault.TheVariants.{Memory}
use Rattle.rpki_folder.specs.Folders.{string_at}
use Rattle.rpki_folder.specs.Walks.{HasOtherName}
use Rattle.rpki_folder.specs.declared.bounds.Ended.{Ended}
use Rattle.rpki_folder.specs.declared.bounds.Ended.TheVariants.{Whole, TooDeep, OutOfSteps}
use Rattle.rpki_folder.specs.declared.unseen.Unseen.{Unseen}
use Rattle.rpki_folder.specs.declared.unseen.Unseen.TheVariants.{NoIssuer, NotBelow, NotCa, NotLookedAt, BelowRejected}
use Rattle.rpki_folder.specs.declared.unseen.Unseen.TheVariants.{BelowUnseen}
use Rattle.rpki_c.specs.FaultNumbers.{path_number, refusal_number}
use Rattle.rpki_c.specs.FolderFates.{Fate, anchor, list, neither, unseen, accepted, rejected, AreListsAmong}
use Rattle.rpki_c.specs.FolderFates.{HasNoFolderAnchor, IsWalkedFolder, IsWhyAt, NoneHasKey, fate_at, line_reached_at}
use Rattle.rpki_c.specs.FolderFates.{StringWalk, origin_of}
use Rattle.rpki_c.specs.FolderLimits.{TellsReached, but_for_limits}
use Rattle.rpki_c.specs.FolderQuestions.{HasFolderTerms, HasNoFolderTerms}
use Rattle.rpki_c.specs.HeldRanges.{AreHeldAt, no_ranges_held}
use Rattle.rpki_c.specs.Questions.{kind_number}
use Rattle.rpki_c.specs.Telling.{HoldsTheSame}
use Rattle.rpki_c.specs.Verdicts.{AreStringsOf, DontAddUp, HasKeyAsked, Refused, IsUncalled}
use Rattle.rpki_c.specs.Writing.{written_over}
use Rattle.rpki_c.specs.declared.folder_lines.RpkiLine.{RpkiLine}
use Rattle.rpki_c.specs.declared.folder_lines.ToldLines.{ToldLines}
use Rattle.rpki_c.specs.declared.folder_question.FolderTerms.{FolderTerms}
use Rattle.rpki_c.specs.declared.folder_question.RpkiFolderQuestion.{RpkiFolderQuestion}
use Rattle.rpki_c.specs.declared.folders.RpkiWalk.{RpkiWalk}
use Rattle.rpki_folder.specs.declared.limits.Reached.{Reached}
use Rattle.rpki_c.specs.declared.paths.RpkiRoom.{RpkiRoom}
use Rattle.rpki_c.specs.declared.ranges.Ranges.{Ranges}
use Rattle.rpki_c.specs.declared.ranges.RpkiHeld.{RpkiHeld}
use Rattle.rpki_c.specs.declared.refusal.Refusal.{Refusal}
use Rattle.rpki_c.specs.declared.refusal.Refusal.TheVariants as refusal
use Rattle.rpki_c.specs.declared.walking.Walked.{Walked}

-- ---- lines

-- the place of the issuer: of the last of these CAs, or of the trust anchor where there is none
abbrev pub issuer_of : ℕ → List ℕ → ℕ
issuer_of top [] = top
issuer_of top (place ∷ places) = issuer_of place places

-- the line of which no more is told than what it is
abbrev pub plain_line : ℕ → RpkiLine
plain_line what =
    record { what = what; fault = 0; step = 0; issuer = 0; kind = 0; limits = 0; held = no_ranges_held; needed = 0 }

-- the line of a certificate that is judged as one of the kind of this number, and accepted below the
-- CAs at these places, below the trust anchor at a place; what it holds is at these places
abbrev pub accepted_line : (kind top : ℕ) → List ℕ → RpkiHeld → RpkiLine
accepted_line kind top above held = record {
  what = 2;
  fault = 0;
  step = length above + 1;
  issuer = issuer_of top above;
  kind = kind;
  limits = 0;
  held = held;
  needed = 0;
}

-- the line of one that is rejected at a step, by a fault of this number
abbrev pub rejected_line : (kind step fault : ℕ) → RpkiLine
rejected_line kind step fault = record {
  what = 3;
  fault = fault;
  step = step;
  issuer = 0;
  kind = kind;
  limits = 0;
  held = no_ranges_held;
  needed = 0;
}

-- it is the number of the kind as which the certificate is judged with which the octets begin: the one
-- that it says that it is
abbrev pub IsKindSaid : List ℕ → ℕ → Type 0
IsKindSaid octets n = (kind : Kind) × (n ≡ kind_number kind) × BeginsWithKind kind octets

-- the line of a certificate that is accepted, and judged so; what it holds is among these ranges. One
-- whose key is asked, and isn't one that the RPKI uses, is told as rejected
abbrev pub IsAcceptedLine : Bool → (kind top : ℕ) → List ℕ → Judged → Ranges → RpkiLine → Type 0
IsAcceptedLine asks_key kind top above j ranges line =
    ((HasKeyAsked asks_key j → ⊥) × (line ≡ rejected_line kind (length above + 1) 603))
    ⊎ (HasKeyAsked asks_key j × AreHeldAt j.holder ranges line.held
    × (line ≡ accepted_line kind top above line.held))

-- the number that tells why there is no verdict, and the place of the issuer, where there is one
abbrev pub unseen_number : Unseen → ℕ
unseen_number NoIssuer = 0
unseen_number (NotBelow issuer) = 6
unseen_number (NotCa issuer) = 7
unseen_number (NotLookedAt issuer limit) = 8
unseen_number (BelowRejected issuer) = 9
unseen_number (BelowUnseen issuer) = 10

abbrev pub unseen_issuer : Unseen → ℕ
unseen_issuer NoIssuer = 0
unseen_issuer (NotBelow issuer) = issuer
unseen_issuer (NotCa issuer) = issuer
unseen_issuer (NotLookedAt issuer limit) = issuer
unseen_issuer (BelowRejected issuer) = issuer
unseen_issuer (BelowUnseen issuer) = issuer

-- the line of a certificate without a verdict
abbrev pub unseen_line : Unseen → RpkiLine
unseen_line why = record (plain_line (unseen_number why)) { issuer = unseen_issuer why }

-- the line of a string that has this fate, where these are reasons why there is no verdict on it
abbrev pub IsFateLine : Bool → ℕ → List ℕ → (Unseen → Type 0) → Fate → Ranges → RpkiLine → Type 0
IsFateLine asks_key top octets IsWhy unseen ranges line =
    (why : Unseen) × IsWhy why × (line ≡ unseen_line why)
IsFateLine asks_key top octets IsWhy anchor ranges line = line ≡ plain_line 1
IsFateLine asks_key top octets IsWhy (accepted above j) ranges line =
    (kind : ℕ) × IsKindSaid octets kind × IsAcceptedLine asks_key kind top above j ranges line
IsFateLine asks_key top octets IsWhy (rejected step fault) ranges line =
    (kind : ℕ) × IsKindSaid octets kind × (line ≡ rejected_line kind step (path_number fault))
IsFateLine asks_key top octets IsWhy list ranges line = line ≡ plain_line 4
IsFateLine asks_key top octets IsWhy neither ranges line = line ≡ plain_line 5

-- the line of a string that has this fate, and at whose certificate these limits were reached
abbrev pub IsLineWith : Bool → ℕ → List ℕ → (Unseen → Type 0) → Fate → Reached → Ranges → RpkiLine → Type 0
IsLineWith asks_key top octets IsWhy fate r ranges line =
    IsFateLine asks_key top octets IsWhy fate ranges (but_for_limits line) × TellsReached r line

-- the line of the string at a place, by the lines of the walk
abbrev pub IsLineAt : Bool → StringWalk → ℕ → Ranges → RpkiLine → Type 0
IsLineAt asks_key w place ranges line =
    IsLineWith asks_key (origin_of w.sorted w.anchor) (string_at w.sorted.strings.now place)
    (IsWhyAt w place) (fate_at w place) (line_reached_at w place) ranges line

-- these are the lines of so many strings, with what is held
pub record AreLinesOf (asks_key : Bool) (w : StringWalk) (count : ℕ) (it : ToldLines) : Type 0 where
  pub count_is : length it.lines.items ≡ count
  pub line_is : (place : ℕ) (d : RpkiLine) → place < count
      → IsLineAt asks_key w place it.ranges (slice_index_or it.lines.items place d)

-- ---- answers

-- what became of the strings, below the locator's trust anchor among them
pub record IsWalkOf (x : Context) (f : FolderTerms) (t : NamedTal) (strings : List (List ℕ))
    (w : Walked) : Type 0 where
  pub lines : StringWalk
  pub strings_are : lines.sorted.strings.now ≡ strings
  pub walked : IsWalkedFolder x f.asks_names t strings f.depth f.steps lines w.ended
  pub anchor_is : w.anchor ≡ origin_of lines.sorted lines.anchor
  pub lines_are : AreLinesOf f.asks_key lines (length strings) w.told

-- the file is no locator
abbrev pub IsTalRefusal : Bool → List ℕ → Refusal → Type 0
IsTalRefusal strict file (refusal.Locator e) = RejectsTal strict e file
IsTalRefusal strict file refusal.Memory = Unit {0}
IsTalRefusal strict file _ = ⊥

-- names are asked, and the string at the place is a valid trust anchor of two names
abbrev pub IsTwoNamed : Context → Bool → NamedTal → List (List ℕ) → ℕ → Type 0
IsTwoNamed x names t strings place =
    (lists : List CrlState) × AreListsAmong strings lists
    × HasOtherName x (by_named_lists names x lists) names t (string_at strings place)

-- the answer of the strings below this locator: what became of them; or none has its key; or, where
-- none is a valid trust anchor, what is wrong of the first that has it
abbrev pub AnswersBelow : Context → FolderTerms → NamedTal → List (List ℕ) → Result Walked Refusal
    → Type 0
AnswersBelow x f t strings (Ok w) = IsWalkOf x f t strings w
AnswersBelow x f t strings (Err refusal.OtherKey) = NoneHasKey t.tal strings
AnswersBelow x f t strings (Err (refusal.NoResources place)) =
    HasNoFolderAnchor x f.asks_names t strings place × BeginsWithNoNumber (string_at strings place)
AnswersBelow x f t strings (Err (refusal.OtherName place)) =
    HasNoFolderAnchor x f.asks_names t strings place × IsTwoNamed x f.asks_names t strings place
AnswersBelow x f t strings (Err (refusal.Member e)) =
    HasNoFolderAnchor x f.asks_names t strings e.index × (e.fault ≢ Memory)
    × Finds x (trust_anchor_demand x) (string_at strings e.index) e.fault
AnswersBelow x f t strings (Err refusal.Memory) = Unit {0}
AnswersBelow x f t strings _ = ⊥

-- the answer of the strings below the locator that the file is
abbrev pub AnswersLocated : Context → FolderTerms → List ℕ → List (List ℕ) → Result Walked Refusal
    → Type 0
AnswersLocated x f file strings r =
    Refused (IsTalRefusal x.strict file) r
    ⊎ ((t : NamedTal) × IsLocator x.strict t.tal file × AnswersBelow x f t strings r)

-- the answer of the question's strings
abbrev pub AnswersGiven : Verifies → RpkiFolderQuestion → FolderTerms → Result Walked Refusal
    → Type 0
AnswersGiven verifies q t r =
    Refused (IsUncalled (DontAddUp q.strings)) r
    ⊎ ((strings : List (List ℕ)) × AreStringsOf q.strings strings
    × AnswersLocated (context verifies t.at t.strict) t q.locator.now strings r)

-- the answer to a question about a folder, by this relation of signatures
abbrev pub AnswersFolder : Verifies → RpkiFolderQuestion → Result Walked Refusal → Type 0
AnswersFolder verifies q r =
    Refused (IsUncalled (HasNoFolderTerms q)) r
    ⊎ ((t : FolderTerms) × HasFolderTerms q t × AnswersGiven verifies q t r)

-- ---- what is told

-- the number of an end; 0 where there was no walk
abbrev pub ended_number : Ended → ℕ
ended_number Whole = 1
ended_number TooDeep = 2
ended_number OutOfSteps = 3

-- the place of the trust anchor that is wrong; 0 where another thing is
abbrev pub anchor_place : Refusal → ℕ
anchor_place (refusal.NoResources place) = place
anchor_place (refusal.OtherName place) = place
anchor_place (refusal.Member e) = e.index
anchor_place _ = 0

-- what is told of an answer as a whole: how the walk ended and where the trust anchor is, or why
-- there was none
abbrev pub walk_of : Result Walked Refusal → RpkiWalk
walk_of (Ok w) = record {
  fault = 0;
  ended = ended_number w.ended;
  anchor = w.anchor;
  v4 = length w.told.ranges.v4.items;
  v6 = length w.told.ranges.v6.items;
  asn = length w.told.ranges.asn.items;
}
walk_of (Err r) =
    record { fault = refusal_number r; ended = 0; anchor = anchor_place r; v4 = 0; v6 = 0; asn = 0 }

-- the lines of the answer stand in the caller's memory, as many as there is room for
abbrev pub ArePut : Result Walked Refusal → List RpkiLine → List RpkiLine → Type 0
ArePut (Ok w) old new = new ≡ written_over w.told.lines.items old
ArePut (Err r) old new = new ≡ old

-- these ranges stand in the room, as many of each kind as there is room for
pub record ArePutIn (ranges : Ranges) (old new : RpkiRoom) : Type 0 where
  pub v4 : new.v4.now ≡ written_over ranges.v4.items old.v4.now
  pub v6 : new.v6.now ≡ written_over ranges.v6.items old.v6.now
  pub asn : new.asn.now ≡ written_over ranges.asn.items old.asn.now

-- the room has the ranges of the answer
abbrev pub HoldsWalk : Result Walked Refusal → RpkiRoom → RpkiRoom → Type 0
HoldsWalk (Ok w) old new = ArePutIn w.told.ranges old new
HoldsWalk (Err r) old new = HoldsTheSame old new

-- what is told of the question's strings, by this relation of signatures
pub record IsToldWalk (verifies : Verifies) (q : RpkiFolderQuestion) (old new : List RpkiLine)
    (old_room new_room : RpkiRoom) (out : RpkiWalk) : Type 0 where
  pub answer : Result Walked Refusal
  pub answers : AnswersFolder verifies q answer
  pub told : out ≡ walk_of answer
  pub put : ArePut answer old new
  pub held : HoldsWalk answer old_room new_room
