-- What a refusal says of a request, errand by errand, and that it is so (own).
use Rattle.std.specs.Prelude.{◌≡◌, ◌⊎◌, ℕ, List, [], ◌∷◌, option_map, Option, Some, None}
use Rattle.rpki_cert.specs.Certificates.{TbsFields}
use Rattle.rpki_parts.specs.Keys.{KeyFields}
use Rattle.rpki_cert.specs.declared.inspect.Kind.{Kind}
use Rattle.rpki_cert.specs.declared.inspect.Kind.TheVariants as kind
use Rattle.rpki_crl.specs.Lists.{CrlFields, IsTbsCertList, ListFields}
use Rattle.rpki_parts.specs.Names.{IsName}
use Rattle.rpki_crl.specs.RevokedEntries.{Revoked}
use Rattle.rpki_der.specs.Times.{Moment}
use Rattle.rpki_cert.specs.Verification.{ResourceFields}
use Rattle.rpki_issuing.specs.AskedFields.{subject_asked}
use Rattle.rpki_issuing.specs.Issuers.{HasIssuerName}
use Rattle.rpki_issuing.specs.PreparedOctets.{IsToSign, IsUncompleted, IsUnprepared}
use Rattle.rpki_issuing.specs.WantedLists.{IsListCompleted, IsListPrepared, IsListUncompleted, IsListUnprepared}
use Rattle.rpki_issuing.specs.WantedLists.{IsListWanted, IsNoList, WantedListFields}
use Rattle.rpki_issuing.specs.declared.wanted.preparing.WantedError.{WantedError}
use Rattle.rpki_issuing.specs.declared.wanted.wanted.Wanted.{Wanted}
use Rattle.rpki_path.specs.Asking.{RevocationChecks}
use Rattle.rpki_requests.specs.Fulfilment.{AsksFields, AsksList, IsSoBelow, context_of}
use Rattle.rpki_requests.specs.OptionValues.{GivesList, GivesWanted}
use Rattle.rpki_requests.specs.RequestFiles.{InputFields, IsCompletedAs, IsKeyFile, IsPreviousOf, IsSoAsked}
use Rattle.rpki_requests.specs.RequestWords.{AskedFields, OptionFields}
use Rattle.rpki_requests.specs.ToldRefusals.{IsDataFault, IsKeyFault, IsOfPath, IsOptionRefusal, IsOtherList, IsUnfit}
use Rattle.rpki_requests.specs.ToldRefusals.{IsWantedFault}
use Rattle.rpki_requests.specs.declared.refusals.Refusal.{Refusal}
use Rattle.rpki_requests.specs.declared.refusals.Refusal.TheVariants.{NoIssuer, NoName, Files, OtherName, Memory}
use Rattle.rpki_requests.specs.declared.words.Errand.{Errand}
use Rattle.rpki_requests.specs.declared.words.Errand.TheVariants.{Authority, EndEntity, Detached, Router, Anchor}
use Rattle.rpki_requests.specs.declared.words.Errand.TheVariants.{RevocationList, Completion}

-- ---- a certificate is prepared

-- the subject that options and key ask for is no name
pub record HasNoName (kind : Kind) (given : List OptionFields) (keys : List (List ℕ))
    : Type 0 where
  pub wanted : Wanted
  pub wanted_is : GivesWanted given wanted
  pub key : KeyFields
  pub key_is : IsKeyFile keys key
  pub unnamed :
      let subject = subject_asked kind wanted.numbers.systems key in IsName subject subject → ⊥

-- it speaks of an option, of the key, or of the subject's name
abbrev pub IsFieldsFault : Kind → List OptionFields → List (List ℕ) → Refusal → Type 0
IsFieldsFault kind given keys why =
    IsOptionRefusal given why
    ⊎ (IsKeyFault keys why ⊎ ((why ≡ NoName) × HasNoName kind given keys))

-- the fields that are asked for aren't ready below this issuer, the last of this path, for this
pub record AreUnready (kind : Kind) (asked : AskedFields) (keys path : List (List ℕ))
    (checks : RevocationChecks) (at : Moment) (issuer : Option ResourceFields)
    (e : WantedError) : Type 0 where
  pub fields : TbsFields
  pub asks : AsksFields kind asked keys issuer fields
  pub unprepared : IsUnprepared kind issuer path checks at asked.strict fields e

-- what it says of the certificate of this kind below this issuer is so
abbrev pub IsSoOfCertificate : Kind → AskedFields → List (List ℕ) → List (List ℕ)
    → RevocationChecks → Moment → Option ResourceFields → Refusal → Type 0
IsSoOfCertificate kind asked keys path checks at issuer why =
    IsFieldsFault kind asked.given keys why
    ⊎ IsUnfit (AreUnready kind asked keys path checks at issuer) why

-- it speaks of the issuer's path; or of the certificate below the issuer that this is, and is so
abbrev pub IsSoOfPrepared : Kind → AskedFields → InputFields → Moment → Refusal → Type 0
IsSoOfPrepared kind asked inputs at why =
    IsOfPath why
    ⊎ IsSoBelow asked inputs at (λ issuer. IsSoAsked (context_of asked at) inputs.lists
    (λ checks. IsSoOfCertificate kind asked inputs.keys inputs.issuers checks at issuer why))

-- ---- a list is prepared

-- options and files say what is wanted of this issuer's list, and no such list may follow the one
-- before, for this
pub record MayNotFollow (given : List OptionFields) (inputs : InputFields) (at : Moment)
    (issuer : TbsFields) (e : WantedError) : Type 0 where
  pub previous : Option CrlFields
  pub previous_is : IsPreviousOf issuer inputs.previous previous
  pub wanted : WantedListFields
  pub wanted_is : GivesList given inputs.revoked issuer at wanted
  pub none :
      (f : ListFields Revoked)
      → IsListWanted wanted (option_map (λ list. list.fields) previous) issuer f → ⊥
  pub reason : IsNoList wanted (option_map (λ list. list.fields) previous) e

-- it speaks of the list before, of an option or of what is revoked; or no such list may follow, for
-- what it says
abbrev pub IsAskedListFault : List OptionFields → InputFields → Moment → TbsFields → Refusal → Type 0
IsAskedListFault given inputs at issuer why =
    IsOtherList issuer inputs.previous why
    ⊎ (IsWantedFault given inputs.revoked issuer why
    ⊎ IsUnfit (MayNotFollow given inputs at issuer) why)

-- nothing is prepared of the fields that are asked for, for this
pub record IsListUnready (asked : AskedFields) (inputs : InputFields) (at : Moment)
    (issuer : TbsFields) (e : WantedError) : Type 0 where
  pub fields : ListFields Revoked
  pub asks : AsksList asked inputs at issuer fields
  pub unprepared : (octets : List ℕ) → IsListPrepared at asked.strict issuer fields octets → ⊥
  pub reason : IsListUnprepared at asked.strict issuer fields e

-- what it says of this issuer's list is so
abbrev pub IsListErrandFault : AskedFields → InputFields → Moment → TbsFields → Refusal → Type 0
IsListErrandFault asked inputs at issuer why =
    IsAskedListFault asked.given inputs at issuer why
    ⊎ IsUnfit (IsListUnready asked inputs at issuer) why

-- there is no issuer, and of that it speaks; or what it says of this issuer's list is so
abbrev pub IsSoOfList : AskedFields → InputFields → Moment → Refusal → Option ResourceFields
    → Type 0
IsSoOfList asked inputs at why None = why ≡ NoIssuer
IsSoOfList asked inputs at why (Some r) = IsListErrandFault asked inputs at r.cert.fields why

-- it speaks of the issuer's path; or of the list of the issuer that this is, and is so
abbrev pub IsSoOfListed : AskedFields → InputFields → Moment → Refusal → Type 0
IsSoOfListed asked inputs at why =
    IsOfPath why ⊎ IsSoBelow asked inputs at (IsSoOfList asked inputs at why)

-- ---- a certificate or a list is completed

-- where names don't chain: at the certificate below the issuer, or at the trust anchor
abbrev pub name_place : Option ResourceFields → ℕ
name_place None = 0
name_place (Some issuer) = 1

-- the octets are a TBSCertificate, which isn't named as this issuer
pub record IsNamedOtherwise (issuer : Option ResourceFields) (prepared : List ℕ) : Type 0 where
  pub fields : TbsFields
  pub fields_are : IsToSign fields prepared
  pub unnamed : HasIssuerName issuer fields → ⊥

-- they are one, which isn't completed by this signature below this issuer, the last of this path,
-- for this
pub record IsUnmade (asked : AskedFields) (path : List (List ℕ)) (checks : RevocationChecks)
    (at : Moment) (issuer : Option ResourceFields) (prepared signature : List ℕ)
    (e : WantedError) : Type 0 where
  pub fields : TbsFields
  pub fields_are : IsToSign fields prepared
  pub named : HasIssuerName issuer fields
  pub kind : Kind
  pub kind_is : IsCompletedAs issuer fields kind
  pub uncompleted : IsUncompleted kind issuer path checks at asked.strict fields prepared signature e

-- what it says of the certificate that is completed below this issuer is so
abbrev pub IsSoOfMade : AskedFields → List (List ℕ) → RevocationChecks → Moment
    → Option ResourceFields → List ℕ → List ℕ → Refusal → Type 0
IsSoOfMade asked path checks at issuer prepared signature why =
    IsDataFault prepared why
    ⊎ (((why ≡ OtherName (name_place issuer)) × IsNamedOtherwise issuer prepared)
    ⊎ IsUnfit (IsUnmade asked path checks at issuer prepared signature) why)

-- the octets are a TBSCertList, which isn't named as this issuer
pub record IsListNamedOtherwise (issuer : TbsFields) (prepared : List ℕ) : Type 0 where
  pub fields : ListFields Revoked
  pub fields_are : IsTbsCertList fields prepared
  pub unnamed : fields.issuer ≡ issuer.subject → ⊥

-- they are one, which isn't completed by this signature below this issuer, for this
pub record IsListUnmade (asked : AskedFields) (at : Moment) (issuer : TbsFields)
    (prepared signature : List ℕ) (e : WantedError) : Type 0 where
  pub fields : ListFields Revoked
  pub fields_are : IsTbsCertList fields prepared
  pub named : fields.issuer ≡ issuer.subject
  pub uncompleted :
      (octets : List ℕ)
      → IsListCompleted at asked.strict issuer fields prepared signature octets → ⊥
  pub reason : IsListUncompleted at asked.strict issuer fields prepared signature e

-- it says that the list is named otherwise than this issuer, or isn't ready or signed
abbrev pub IsMadeListFault : AskedFields → Moment → TbsFields → List ℕ → List ℕ → Refusal → Type 0
IsMadeListFault asked at issuer prepared signature why =
    ((why ≡ OtherName 1) × IsListNamedOtherwise issuer prepared)
    ⊎ IsUnfit (IsListUnmade asked at issuer prepared signature) why

-- what it says of the list that is completed below this issuer is so
abbrev pub IsSoOfMadeList : AskedFields → Moment → Option ResourceFields → List ℕ → List ℕ
    → Refusal → Type 0
IsSoOfMadeList asked at None prepared signature why = why ≡ NoIssuer
IsSoOfMadeList asked at (Some r) prepared signature why =
    IsMadeListFault asked at r.cert.fields prepared signature why

-- the octets are a TBSCertList
abbrev pub IsListData : List ℕ → Type 0
IsListData octets = (f : ListFields Revoked) × IsTbsCertList f octets

-- memory ran out; or it speaks of the list that is to be completed; or there is none, and it speaks
-- of the certificate
abbrev pub IsSoOfEither : AskedFields → List (List ℕ) → RevocationChecks → Moment
    → Option ResourceFields → List ℕ → List ℕ → Refusal → Type 0
IsSoOfEither asked path checks at issuer prepared signature why =
    (why ≡ Memory)
    ⊎ ((IsListData prepared × IsSoOfMadeList asked at issuer prepared signature why)
    ⊎ ((IsListData prepared → ⊥) × IsSoOfMade asked path checks at issuer prepared signature why))

-- the files are two, and what it says of what they make below this issuer is so
pub record IsSoOfFiles (asked : AskedFields) (inputs : InputFields) (at : Moment) (why : Refusal)
    (issuer : Option ResourceFields) : Type 0 where
  pub prepared : List ℕ
  pub signature : List ℕ
  pub files_are : inputs.files ≡ prepared ∷ signature ∷ []
  pub either : IsSoAsked (context_of asked at) inputs.lists
      (λ checks. IsSoOfEither asked inputs.issuers checks at issuer prepared signature why)

-- there aren't two files
abbrev pub AreNotTwo : List (List ℕ) → Type 0
AreNotTwo files = (prepared signature : List ℕ) → files ≡ prepared ∷ signature ∷ [] → ⊥

-- there aren't two files, and of that it speaks; or it speaks of the issuer's path; or of what two
-- files make below the issuer that this is, and is so
abbrev pub IsSoOfCompletion : AskedFields → InputFields → Moment → Refusal → Type 0
IsSoOfCompletion asked inputs at why =
    ((why ≡ Files) × AreNotTwo inputs.files)
    ⊎ (IsOfPath why ⊎ IsSoBelow asked inputs at (IsSoOfFiles asked inputs at why))

-- ---- the whole

-- what it says where this errand is asked is so
abbrev pub IsSoAs : Errand → AskedFields → InputFields → Moment → Refusal → Type 0
IsSoAs Authority asked inputs at why = IsSoOfPrepared kind.Authority asked inputs at why
IsSoAs EndEntity asked inputs at why = IsSoOfPrepared kind.EndEntity asked inputs at why
IsSoAs Detached asked inputs at why = IsSoOfPrepared kind.Detached asked inputs at why
IsSoAs Router asked inputs at why = IsSoOfPrepared kind.Router asked inputs at why
IsSoAs Anchor asked inputs at why = IsSoOfPrepared kind.Anchor asked inputs at why
IsSoAs RevocationList asked inputs at why = IsSoOfListed asked inputs at why
IsSoAs Completion asked inputs at why = IsSoOfCompletion asked inputs at why

-- what a refusal says where this is asked, with these files at this moment, is so
abbrev pub IsSoOf : AskedFields → InputFields → Moment → Refusal → Type 0
IsSoOf asked inputs at why = IsSoAs asked.errand asked inputs at why
