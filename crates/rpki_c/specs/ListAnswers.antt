-- What is answered to what a caller wants of a revocation list: the octets that are to be signed,
-- those of the list, or why there are none (own).
use Rattle.std.specs.Prelude.{◌≡◌, ◌⊎◌, ℕ, List, [], Option, Some, None, option_map, Result, Ok, Err}
use Rattle.rpki_ext.specs.Kinds.{Means}
use Rattle.rpki_cert.specs.Certificates.{TbsFields}
use Rattle.rpki_crl.specs.Lists.{CrlFields, CrlState, IsCertificateList, IsTbsCertList, ListFields}
use Rattle.rpki_crl.specs.RevokedEntries.{Revoked}
use Rattle.rpki_issuing.specs.Acceptance.{IsAnsweringList}
use Rattle.rpki_issuing.specs.Issuers.{IsOwnList}
use Rattle.rpki_issuing.specs.WantedLists.{IsListCompleted, IsListPrepared, IsListWanted, WantedListFields}
use Rattle.rpki_c.specs.Verdicts.{AreNoList, asked_context}
use Rattle.rpki_c.specs.WantedAnswers.{IsAuthorityOf, IsWhyNoIssuer}
use Rattle.rpki_c.specs.WantedLists.{GivesWantedList, HasListCompletionTerms, HasListTerms, HasNoListCompletionTerms}
use Rattle.rpki_c.specs.WantedLists.{HasNoListTerms, HaveDates}
use Rattle.rpki_c.specs.declared.judging.Accepted.{Accepted}
use Rattle.rpki_c.specs.declared.list_completing.RpkiListCompletion.{RpkiListCompletion}
use Rattle.rpki_c.specs.declared.lists.RpkiEntry.{RpkiEntry}
use Rattle.rpki_c.specs.declared.question.Terms.{Terms}
use Rattle.rpki_c.specs.declared.unissued.Unissued.{Unissued}
use Rattle.rpki_c.specs.declared.unissued.Unissued.TheVariants as why
use Rattle.rpki_c.specs.declared.wanted_list.ListTerms.{ListTerms}
use Rattle.rpki_c.specs.declared.wanted_list.RpkiWantedList.{RpkiWantedList}

-- ---- the list before

-- the octets are this list of the issuer
abbrev pub IsOwn : TbsFields → List ℕ → CrlState → Type 0
IsOwn issuer octets list = IsCertificateList list.list octets × IsOwnList issuer list.list

-- they are no list, or one that isn't the issuer's
abbrev pub AreOther : TbsFields → List ℕ → Type 0
AreOther issuer octets =
    AreNoList octets
    ⊎ ((list : CrlFields) × IsCertificateList list octets × (IsOwnList issuer list → ⊥))

-- the list before; where there are no octets, there was none
abbrev pub IsPreviousCrl : TbsFields → List ℕ → Option CrlState → Type 0
IsPreviousCrl issuer octets None = octets ≡ []
IsPreviousCrl issuer octets (Some list) = IsOwn issuer octets list

-- why none is found
abbrev pub IsNoPrevious : TbsFields → List ℕ → Unissued → Type 0
IsNoPrevious issuer octets why.OtherList = AreOther issuer octets
IsNoPrevious issuer octets why.Memory = Unit {0}
IsNoPrevious issuer octets _ = ⊥

-- its fields
abbrev pub fields_before : Option CrlState → Option (ListFields Revoked)
fields_before before = option_map (λ l. l.list.fields) before

-- ---- what is prepared

-- why there are no values: no moment has the numbers of a date; or memory was wanted
abbrev pub GivesNoEntries : List RpkiEntry → Unissued → Type 0
GivesNoEntries revoked why.BadCall = HaveDates revoked → ⊥
GivesNoEntries revoked why.Memory = Unit {0}
GivesNoEntries revoked _ = ⊥

-- the fields that are asked for below this issuer, behind this list
pub record WantsListFields (w : RpkiWantedList) (t : ListTerms) (issuer : TbsFields)
    (before : Option CrlState) (f : ListFields Revoked) : Type 0 where
  pub wanted : WantedListFields
  pub given : GivesWantedList w t wanted
  pub fields_are : IsListWanted wanted (fields_before before) issuer f

-- values are given of which there are no such fields that are so
abbrev pub AsksNone : RpkiWantedList → ListTerms → TbsFields → Option CrlState
    → (ListFields Revoked → Type 0) → Type 0
AsksNone w t issuer before Are =
    (wanted : WantedListFields) × GivesWantedList w t wanted
    × ((f : ListFields Revoked) → IsListWanted wanted (fields_before before) issuer f → Are f → ⊥)

-- the fields, or why there are none: no such list may follow the one before
abbrev pub AnswersListFields : RpkiWantedList → ListTerms → TbsFields → Option CrlState
    → Result (ListFields Revoked) Unissued → Type 0
AnswersListFields w t issuer before (Ok f) = WantsListFields w t issuer before f
AnswersListFields w t issuer before (Err (why.Unfit e)) =
    AsksNone w t issuer before (λ f. Unit {0})
AnswersListFields w t issuer before (Err e) = GivesNoEntries w.revoked.now e

-- the octets of these fields, of which only the signature is missing below the issuer; or why there
-- are none: no such list may follow, or it isn't ready to be signed
abbrev pub AnswersBehind : RpkiWantedList → ListTerms → TbsFields → Option CrlState
    → Result (List ℕ) Unissued → Type 0
AnswersBehind w t issuer before (Ok octets) =
    (f : ListFields Revoked) × WantsListFields w t issuer before f
    × IsListPrepared t.asked.now t.asked.strict issuer f octets
AnswersBehind w t issuer before (Err (why.Unfit e)) =
    AsksNone w t issuer before (λ f.
    (octets : List ℕ) × IsListPrepared t.asked.now t.asked.strict issuer f octets)
AnswersBehind w t issuer before (Err e) = GivesNoEntries w.revoked.now e

-- the answer behind the list before, or why that is none of the issuer
abbrev pub AnswersListBelow : RpkiWantedList → ListTerms → TbsFields → Result (List ℕ) Unissued
    → Type 0
AnswersListBelow w t issuer r =
    ((e : Unissued) × (r ≡ Err e) × IsNoPrevious issuer w.previous.now e)
    ⊎ ((before : Option CrlState) × IsPreviousCrl issuer w.previous.now before
    × AnswersBehind w t issuer before r)

-- the octets that are to be signed of the list that is wanted, or why there are none
abbrev pub AnswersWantedList : RpkiWantedList → Result (List ℕ) Unissued → Type 0
AnswersWantedList w r =
    (HasNoListTerms w × (r ≡ Err why.BadCall))
    ⊎ ((t : ListTerms) × HasListTerms w t
    × (((e : Unissued) × (r ≡ Err e) × IsWhyNoIssuer w.issuer t.asked e)
    ⊎ ((above : Accepted) × IsAuthorityOf w.issuer t.asked above
    × AnswersListBelow w t above.judged.holder.cert.fields r)))

-- ---- what is completed

-- the fields of what was signed, or why there are none
abbrev pub AnswersListSigned : List ℕ → Result (ListFields Revoked) Unissued → Type 0
AnswersListSigned octets (Ok f) = Means IsTbsCertList f octets
AnswersListSigned octets (Err why.NotToSign) =
    (f : ListFields Revoked) → Means IsTbsCertList f octets → ⊥
AnswersListSigned octets (Err why.Memory) = Unit {0}
AnswersListSigned octets (Err _) = ⊥

-- the list is named as its issuer is (RFC 5280 5.1.2.3)
abbrev pub IsListNamed : TbsFields → ListFields Revoked → Type 0
IsListNamed issuer f = f.issuer ≡ issuer.subject

-- the fields of what was signed below this issuer
abbrev pub AnswersListNamed : TbsFields → List ℕ → Result (ListFields Revoked) Unissued → Type 0
AnswersListNamed issuer octets (Ok f) = Means IsTbsCertList f octets × IsListNamed issuer f
AnswersListNamed issuer octets (Err why.OtherName) =
    (f : ListFields Revoked) × Means IsTbsCertList f octets × (IsListNamed issuer f → ⊥)
AnswersListNamed issuer octets (Err e) = AnswersListSigned octets (Err e)

-- these fields are signed, and the signature makes this list of them below the issuer
abbrev pub CompletesList : RpkiListCompletion → Terms → TbsFields → ListFields Revoked → List ℕ
    → Type 0
CompletesList c t issuer f octets =
    IsListCompleted t.now t.strict issuer f c.prepared.now c.signature.now octets

-- the list that the signature makes of these fields below the issuer, or why there is none
abbrev pub AnswersListCompletedBelow : RpkiListCompletion → Terms → TbsFields
    → Result (List ℕ) Unissued → Type 0
AnswersListCompletedBelow c t issuer (Ok octets) =
    (f : ListFields Revoked) × Means IsTbsCertList f c.prepared.now × IsListNamed issuer f
    × CompletesList c t issuer f octets
    × IsAnsweringList (asked_context t) issuer f octets
AnswersListCompletedBelow c t issuer (Err (why.Unfit e)) =
    (f : ListFields Revoked) × Means IsTbsCertList f c.prepared.now × IsListNamed issuer f
    × ((octets : List ℕ) → CompletesList c t issuer f octets → ⊥)
AnswersListCompletedBelow c t issuer (Err e) = AnswersListNamed issuer c.prepared.now (Err e)

-- the list that is completed, or why there is none
abbrev pub AnswersListCompletion : RpkiListCompletion → Result (List ℕ) Unissued → Type 0
AnswersListCompletion c r =
    (HasNoListCompletionTerms c × (r ≡ Err why.BadCall))
    ⊎ ((t : Terms) × HasListCompletionTerms c t
    × (((e : Unissued) × (r ≡ Err e) × IsWhyNoIssuer c.issuer t e)
    ⊎ ((above : Accepted) × IsAuthorityOf c.issuer t above
    × AnswersListCompletedBelow c t above.judged.holder.cert.fields r)))
