-- What is answered to a question about a path (own).
use Rattle.std.specs.Prelude.{◌≡◌, ◌≢◌, ◌⊎◌, ◌<◌, ℕ, Bool, true, false, List, [], Any, length, sum, get_or}
use Rattle.std.specs.Prelude.{Some, Result, Ok, Err, IsTrue}
use Rattle.rpki_ext.specs.Kinds.{Means}
use Rattle.rpki_der.specs.Place.{Rejects}
use Rattle.rpki_cert.specs.Certificates.{CertFields, IsCertificate}
use Rattle.rpki_cert.specs.Verification.{Context, context}
use Rattle.rpki_crl.specs.ListHeads.{NamesKey}
use Rattle.rpki_crl.specs.Lists.{CrlFields, CrlState, IsCertificateList}
use Rattle.rpki_path.specs.Asking.{RevocationChecks, nobody}
use Rattle.rpki_path.specs.AskedLists.{by_named_lists}
use Rattle.rpki_keys.specs.KeyForms.{IsUsableKey}
use Rattle.rpki_keys.specs.LocatorFaults.{RejectsTal}
use Rattle.rpki_keys.specs.Locators.{TalFields, IsLocator}
use Rattle.rpki_keys.specs.RsaSignatures.{IsSignedByRsa}
use Rattle.rpki_path.specs.GivenPaths.{PathStrings, CanEndIn, IsSplitAs}
use Rattle.rpki_path.specs.Judging.{Judges, IsAcceptedWith, last_key}
use Rattle.rpki_path.specs.NameChains.{BeginChained, IsUnchained, strings_below}
use Rattle.rpki_path.specs.LocatedPaths.{IsLocatorOf, BeginsWithKey, BeginsWithNoNumber, BeginsWithNumbers}
use Rattle.rpki_path.specs.LocatedPaths.{BeginsWithOtherKey}
use Rattle.rpki_path.specs.Paths.Steps.{IsUnread}
use Rattle.rpki_path.specs.declared.judging.Judged.{Judged}
use Rattle.rpki_c.specs.Questions.{HasTerms, HasNoTerms}
use Rattle.rpki_c.specs.Strings.{AreCut, AreKeptAmong}
use Rattle.rpki_c.specs.declared.judging.Accepted.{Accepted}
use Rattle.rpki_c.specs.declared.question.RpkiQuestion.{RpkiQuestion}
use Rattle.rpki_c.specs.declared.question.Terms.{Terms}
use Rattle.rpki_c.specs.declared.refusal.Refusal.{Refusal}
use Rattle.rpki_c.specs.declared.refusal.Refusal.TheVariants as refusal
use Rattle.rpki_c.specs.declared.strings.RpkiStrings.{RpkiStrings}

-- ---- the strings of a question

-- these are the caller's octets, cut as the lengths say
abbrev pub AreStringsOf : RpkiStrings → List (List ℕ) → Type 0
AreStringsOf s strings = AreCut s.octets.now s.lengths.now strings

-- the lengths don't add up to the octets
abbrev pub DontAddUp : RpkiStrings → Type 0
DontAddUp s = sum s.lengths.now ≢ length s.octets.now

-- ---- why there is no judgement

-- it is an error of which this holds
abbrev pub Refused : {A : Type 0} → (Refusal → Type 0) → Result A Refusal → Type 0
Refused P (Ok answer) = ⊥
Refused P (Err r) = P r

-- the call doesn't fit, or memory ran out
abbrev pub IsUncalled : Type 0 → Refusal → Type 0
IsUncalled P refusal.BadCall = P
IsUncalled P refusal.Memory = Unit {0}
IsUncalled P _ = ⊥

-- ---- CRLs

-- the octets begin with no list
abbrev pub BeginsNoList : List ℕ → Type 0
BeginsNoList octets = (l : CrlFields) → Means IsCertificateList l octets → ⊥

-- the octets are no list; nor are they one where others stand behind it, which may be a list that
-- revokes
abbrev pub AreNoList : List ℕ → Type 0
AreNoList octets = (l : CrlFields) → IsCertificateList l octets → ⊥

-- ---- which of the caller's lists are asked

-- the string begins with a certificate that has this key, or names it as its issuer's
abbrev pub IsKeyIn : List ℕ → List ℕ → Type 0
IsKeyIn key octets =
    (c : CertFields) × Means IsCertificate c octets
    × ((c.fields.extensions.subject_key_identifier ≡ key)
    ⊎ (c.fields.extensions.authority_key_identifier ≡ Some key))

-- one of the strings does
abbrev pub IsKeyOf : List (List ℕ) → List ℕ → Type 0
IsKeyOf strings key = Any (IsKeyIn key) strings

-- the octets have the head of a list, which names none of these keys
abbrev pub IsForeign : (List ℕ → Type 0) → List ℕ → Type 0
IsForeign IsKey octets = (key : List ℕ) × NamesKey key octets × (IsKey key → ⊥)

-- the octets are this list
abbrev pub IsListGiven : List ℕ → CrlState → Type 0
IsListGiven octets l = IsCertificateList l.list octets

-- the lists that the strings are, in their order, but for strings that may be passed over
abbrev pub AreListsBut : (List ℕ → Type 0) → List (List ℕ) → List CrlState → Type 0
AreListsBut MayPass = AreKeptAmong MayPass IsListGiven

-- lists among which each is that names one of these keys
abbrev pub AreListsNaming : (List ℕ → Type 0) → List (List ℕ) → List CrlState → Type 0
AreListsNaming IsKey = AreListsBut (IsForeign IsKey)

-- all lists: a string is passed over only where it is no list, and has the head of a foreign one
abbrev pub AreAllLists : (List ℕ → Type 0) → List (List ℕ) → List CrlState → Type 0
AreAllLists IsKey = AreListsBut (λ octets. AreNoList octets × IsForeign IsKey octets)

-- the octets at this place are no list, and may not be passed over
abbrev pub IsUnreadList : (List ℕ → Type 0) → List (List ℕ) → Refusal → Type 0
IsUnreadList IsKey strings (refusal.List place e) =
    let octets = get_or strings place [] in
    (place < length strings) × Rejects e (AreNoList octets × (IsForeign IsKey octets → ⊥))
IsUnreadList IsKey strings refusal.Memory = Unit {0}
IsUnreadList IsKey strings _ = ⊥

-- such lists of the caller's, if they are asked; else there are none
abbrev pub AreListsGiven : (List (List ℕ) → List CrlState → Type 0) → Bool → RpkiStrings → List CrlState
    → Type 0
AreListsGiven Are true s lists =
    (octets : List (List ℕ)) × AreStringsOf s octets × Are octets lists
AreListsGiven Are false s lists = lists ≡ []

-- they are asked, and this is why they aren't read; one that names none of these keys needn't be
abbrev pub AreNoListsGiven : (List ℕ → Type 0) → Bool → RpkiStrings → Refusal → Type 0
AreNoListsGiven IsKey asks s r =
    IsTrue asks
    × (IsUncalled (DontAddUp s) r
    ⊎ ((octets : List (List ℕ)) × AreStringsOf s octets × IsUnreadList IsKey octets r))

-- ---- who answers for revocation

-- the lists, and whether they, and their names, are asked
pub record AskedCrls : Type 0 where
  pub lists : List CrlState
  pub asks_lists : Bool
  pub asks_names : Bool

-- the lists are asked, which have to have their issuers' names if names are asked (RFC 5280 6.3.3 (b)
-- (1)); or nobody is
abbrev pub checks_if : Bool → Bool → List CrlState → Context → RevocationChecks
checks_if true names lists x = by_named_lists names x lists
checks_if false names lists x = nobody

abbrev pub checks_by : AskedCrls → Context → RevocationChecks
checks_by asked = checks_if asked.asks_lists asked.asks_names asked.lists

abbrev pub asks_nobody : AskedCrls
asks_nobody = record { lists = []; asks_lists = false; asks_names = false }

abbrev pub asked_by : Terms → List CrlState → AskedCrls
asked_by t lists =
    record { lists = lists; asks_lists = t.asks_lists; asks_names = t.asks_names }

-- ---- the trust anchor

-- the locator's file is none, or the trust anchor's octets don't begin with a certificate that has
-- its key and lists a number
abbrev pub IsUntrusted : Bool → List ℕ → List ℕ → Refusal → Type 0
IsUntrusted strict locator anchor (refusal.Locator e) = RejectsTal strict e locator
IsUntrusted strict locator anchor refusal.OtherKey =
    (t : TalFields) × IsLocator strict t locator × BeginsWithOtherKey t anchor
IsUntrusted strict locator anchor (refusal.NoResources place) =
    (place ≡ 0)
    × ((t : TalFields) × IsLocator strict t locator × BeginsWithKey t anchor × BeginsWithNoNumber anchor)
IsUntrusted strict locator anchor (refusal.Member e) = (e.index ≡ 0) × IsUnread anchor e.fault
IsUntrusted strict locator anchor refusal.Memory = Unit {0}
IsUntrusted strict locator anchor _ = ⊥

-- the trust anchor is taken as it is given, or has the locator's key and lists a number
abbrev pub IsTrusted : RpkiQuestion → Terms → List ℕ → Type 0
IsTrusted q t anchor =
    (t.asks_locator ≡ false)
    ⊎ (IsLocatorOf t.strict anchor q.locator.now × BeginsWithNumbers anchor)

-- ---- the path

-- these are the question's members, as this path of which the last is of the kind that is named
pub record IsQuestionPath (q : RpkiQuestion) (t : Terms) (strings : List (List ℕ)) (path : PathStrings)
    : Type 0 where
  pub terms_are : HasTerms q t
  pub strings_are : AreStringsOf q.members strings
  pub can_end : CanEndIn t.last (length strings)
  pub split : IsSplitAs strings t.last path

-- the lengths don't add up, or there are too few members, or too many
abbrev pub HasNoGivenPath : RpkiQuestion → Terms → Type 0
HasNoGivenPath q t =
    DontAddUp q.members
    ⊎ ((strings : List (List ℕ)) × AreStringsOf q.members strings
    × (CanEndIn t.last (length strings) → ⊥))

-- with the RPKI's signatures (RSASSA-PKCS1-v1_5 with SHA-256, RFC 7935 2), at the question's time
abbrev pub asked_context : Terms → Context
asked_context t = context IsSignedByRsa t.now t.strict

-- the path is valid, its names and its last key set aside
abbrev pub IsValidWith : Terms → List CrlState → PathStrings → Judged → Type 0
IsValidWith t lists path judged =
    let x = asked_context t in IsAcceptedWith x (checks_by (asked_by t lists) x) path judged

-- where names are asked, each issuer is the subject of the certificate above, and the trust anchor's
-- its own (RFC 6487 7.2, RFC 8630 2.3)
abbrev pub AreChainedIf : Bool → PathStrings → Type 0
AreChainedIf asks_names path = IsTrue asks_names → BeginChained path.anchor (strings_below path)

-- where the last key is asked, it is one that the RPKI uses (RFC 7935 3, RFC 8608 3.1), as those above
-- it are by the signatures that they verify
abbrev pub HasKeyAsked : Bool → Judged → Type 0
HasKeyAsked asks_key judged = IsTrue asks_key → IsUsableKey (last_key judged)

-- ---- answers

-- the question's path is accepted. Of its lists the entries of one that names no key of the path aren't
-- looked at; those that name one are told with it
pub record IsAcceptedQuestion (q : RpkiQuestion) (t : Terms) (it : Accepted) : Type 0 where
  pub path : PathStrings
  pub path_is : IsQuestionPath q t it.path.items path
  pub trusted : IsTrusted q t path.anchor
  pub lists : List CrlState
  pub lists_are : AreListsGiven (AreAllLists (IsKeyOf it.path.items)) t.asks_lists q.lists lists
  pub valid : IsValidWith t lists path it.judged
  pub named_are : AreListsGiven (AreListsNaming (IsKeyOf it.path.items)) t.asks_lists q.lists
      it.lists.items
  pub chained : AreChainedIf t.asks_names path
  pub usable : HasKeyAsked t.asks_key it.judged

-- with these lists: what is wrong of the first wrong member; of the first whose names don't chain, if
-- names are asked behind all else; or that the RPKI doesn't use the last key, which is asked at the end
abbrev pub FailsWith : Terms → List CrlState → PathStrings → Refusal → Type 0
FailsWith t lists path (refusal.Member e) =
    let x = asked_context t in Judges x (checks_by (asked_by t lists) x) path (Err e)
FailsWith t lists path (refusal.OtherName place) =
    (judged : Judged) × IsValidWith t lists path judged
    × IsTrue t.asks_names × IsUnchained path.anchor (strings_below path) place
FailsWith t lists path refusal.UnusedKey =
    (judged : Judged) × IsValidWith t lists path judged
    × AreChainedIf t.asks_names path × (HasKeyAsked t.asks_key judged → ⊥)
FailsWith t lists path refusal.Memory = Unit {0}
FailsWith t lists path _ = ⊥

-- why the path of these strings isn't accepted: its trust anchor isn't trusted; lists that are asked
-- aren't read; or, with such lists, it fails
abbrev pub FailsAs : (List (List ℕ) → List CrlState → Type 0) → RpkiQuestion → Terms → List (List ℕ)
    → PathStrings → Refusal → Type 0
FailsAs Are q t strings path r =
    (IsTrue t.asks_locator × IsUntrusted t.strict q.locator.now path.anchor r)
    ⊎ (IsTrusted q t path.anchor × AreNoListsGiven (IsKeyOf strings) t.asks_lists q.lists r)
    ⊎ (IsTrusted q t path.anchor
    × ((lists : List CrlState) × AreListsGiven Are t.asks_lists q.lists lists
    × FailsWith t lists path r))

-- why a question with these terms isn't: it has no path, or this is why that fails
abbrev pub IsRefusedOn : RpkiQuestion → Terms → Refusal → Type 0
IsRefusedOn q t r =
    IsUncalled (HasNoGivenPath q t) r
    ⊎ ((strings : List (List ℕ)) × (path : PathStrings) × IsQuestionPath q t strings path
    × FailsAs (AreAllLists (IsKeyOf strings)) q t strings path r)

-- the answer to a question: its path is accepted, or why it isn't
abbrev pub AnswersQuestion : RpkiQuestion → Result Accepted Refusal → Type 0
AnswersQuestion q (Ok it) = (t : Terms) × IsAcceptedQuestion q t it
AnswersQuestion q (Err r) =
    IsUncalled (HasNoTerms q) r ⊎ ((t : Terms) × HasTerms q t × IsRefusedOn q t r)
