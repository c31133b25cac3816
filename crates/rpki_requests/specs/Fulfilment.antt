-- What a request gives: the octets that are to be signed, or a certificate or a revocation list
-- (own).
use Rattle.std.specs.Prelude.{◌≡◌, ◌++◌, ℕ, List, [], ◌∷◌, option_map, Option, Some, None}
use Rattle.rpki_cert.specs.Certificates.{TbsFields, CertFields, IsCertificate}
use Rattle.rpki_parts.specs.Keys.{KeyFields}
use Rattle.rpki_cert.specs.declared.inspect.Kind.{Kind}
use Rattle.rpki_cert.specs.declared.inspect.Kind.TheVariants as kind
use Rattle.rpki_crl.specs.Lists.{CrlFields, IsTbsCertList, ListFields}
use Rattle.rpki_parts.specs.Names.{IsName}
use Rattle.rpki_crl.specs.RevokedEntries.{Revoked}
use Rattle.rpki_keys.specs.KeyForms.{IsUsableKey}
use Rattle.rpki_keys.specs.RsaSignatures.{IsSignedByRsa}
use Rattle.rpki_der.specs.Times.{Moment}
use Rattle.rpki_cert.specs.Verification.{Context, ResourceFields, context}
use Rattle.rpki_issuing.specs.Acceptance.{IsAcceptedBelow, IsAnsweringList}
use Rattle.rpki_issuing.specs.AskedFields.{fields_asked, subject_asked}
use Rattle.rpki_issuing.specs.Issuers.{HasIssuerName, fields_above}
use Rattle.rpki_issuing.specs.PreparedOctets.{IsCompleted, IsPrepared, IsToSign}
use Rattle.rpki_issuing.specs.WantedLists.{IsListCompleted, IsListPrepared, IsListWanted, WantedListFields}
use Rattle.rpki_issuing.specs.declared.wanted.wanted.Wanted.{Wanted}
use Rattle.rpki_path.specs.Asking.{RevocationChecks}
use Rattle.rpki_path.specs.declared.judging.Judged.{Judged}
use Rattle.rpki_verdicts.specs.PathAnswers.{IsVerdictBy}
use Rattle.rpki_verdicts.specs.declared.path.Verdict.TheVariants.{Accepted}
use Rattle.rpki_requests.specs.OptionValues.{GivesList, GivesWanted}
use Rattle.rpki_requests.specs.RequestFiles.{InputFields, IsCompletedAs, IsRequestIssuer, IsKeyFile, IsPreviousOf}
use Rattle.rpki_requests.specs.RequestFiles.{IsSoAsked, chained}
use Rattle.rpki_requests.specs.RequestWords.{AskedFields}
use Rattle.rpki_requests.specs.declared.fulfilling.Made.{Made}
use Rattle.rpki_requests.specs.declared.fulfilling.Made.TheVariants.{ToSign, Certificate}
use Rattle.rpki_requests.specs.declared.fulfilling.Made.TheVariants as made
use Rattle.rpki_requests.specs.declared.words.Errand.{Errand}
use Rattle.rpki_requests.specs.declared.words.Errand.TheVariants.{Authority, EndEntity, Detached, Router, Anchor}
use Rattle.rpki_requests.specs.declared.words.Errand.TheVariants.{RevocationList, Completion}

-- under what a request is judged: with real signatures, at the moment, strictly or not
abbrev pub context_of : AskedFields → Moment → Context
context_of asked at = context IsSignedByRsa at asked.strict

-- below the issuer that the files are it is so
pub record IsSoBelow (asked : AskedFields) (inputs : InputFields) (at : Moment)
    (Is : Option ResourceFields → Type 0) : Type 0 where
  pub issuer : Option ResourceFields
  pub issuer_is : IsRequestIssuer (context_of asked at) inputs.issuers inputs.lists issuer
  pub is_so : Is issuer

-- ---- what is prepared

-- the fields of the certificate of this kind that options and key ask for below this issuer; and
-- its subject is a name
pub record AsksFields (kind : Kind) (asked : AskedFields) (keys : List (List ℕ))
    (issuer : Option ResourceFields) (f : TbsFields) : Type 0 where
  pub wanted : Wanted
  pub wanted_is : GivesWanted asked.given wanted
  pub key : KeyFields
  pub key_is : IsKeyFile keys key
  pub named : let subject = subject_asked kind wanted.numbers.systems key in IsName subject subject
  pub fields_are : f ≡ fields_asked kind asked.trims wanted (fields_above issuer) key

-- the octets of these fields, of which only the signature is missing below the issuer, the last of
-- this path, by who is asked for revocation
pub record PreparesBelow (kind : Kind) (asked : AskedFields) (keys path : List (List ℕ))
    (checks : RevocationChecks) (at : Moment) (issuer : Option ResourceFields)
    (octets : List ℕ) : Type 0 where
  pub fields : TbsFields
  pub asks : AsksFields kind asked keys issuer fields
  pub prepared : IsPrepared kind issuer path checks at asked.strict fields octets

-- below the issuer that the files are, by the lists that are given
pub record Prepares (kind : Kind) (asked : AskedFields) (inputs : InputFields) (at : Moment)
    (octets : List ℕ) : Type 0 where
  pub issuer : Option ResourceFields
  pub issuer_is : IsRequestIssuer (context_of asked at) inputs.issuers inputs.lists issuer
  pub prepares : IsSoAsked (context_of asked at) inputs.lists
      (λ checks. PreparesBelow kind asked inputs.keys inputs.issuers checks at issuer octets)

-- ---- which list is prepared

-- the fields of the list that options and files ask for below this issuer, behind its list before
pub record AsksList (asked : AskedFields) (inputs : InputFields) (at : Moment) (issuer : TbsFields)
    (f : ListFields Revoked) : Type 0 where
  pub previous : Option CrlFields
  pub previous_is : IsPreviousOf issuer inputs.previous previous
  pub wanted : WantedListFields
  pub wanted_is : GivesList asked.given inputs.revoked issuer at wanted
  pub fields_are : IsListWanted wanted (option_map (λ list. list.fields) previous) issuer f

-- the octets of these fields, of which only the signature is missing below the issuer
pub record PreparesListBelow (asked : AskedFields) (inputs : InputFields) (at : Moment)
    (issuer : TbsFields) (octets : List ℕ) : Type 0 where
  pub fields : ListFields Revoked
  pub asks : AsksList asked inputs at issuer fields
  pub prepared : IsListPrepared at asked.strict issuer fields octets

-- below the issuer that the files are
pub record PreparesList (asked : AskedFields) (inputs : InputFields) (at : Moment)
    (octets : List ℕ) : Type 0 where
  pub issuer : ResourceFields
  pub issuer_is : IsRequestIssuer (context_of asked at) inputs.issuers inputs.lists (Some issuer)
  pub prepares : PreparesListBelow asked inputs at issuer.cert.fields octets

-- ---- what is completed

-- a TBSCertificate, a signature of it, and the certificate that these make below the issuer, the
-- last of this path, whose name it has (RFC 6487 4.4, 7.2), by who is asked for revocation
pub record CompletesBelow (asked : AskedFields) (path : List (List ℕ)) (checks : RevocationChecks)
    (at : Moment) (issuer : Option ResourceFields) (prepared signature octets : List ℕ)
    : Type 0 where
  pub fields : TbsFields
  pub fields_are : IsToSign fields prepared
  pub named : HasIssuerName issuer fields
  pub kind : Kind
  pub kind_is : IsCompletedAs issuer fields kind
  pub completed :
      IsCompleted kind issuer path checks at asked.strict fields prepared signature octets

-- a TBSCertList, a signature of it, and the list that these make below the issuer, whose name it
-- has (RFC 5280 5.1.2.3)
pub record CompletesListBelow (asked : AskedFields) (at : Moment) (issuer : TbsFields)
    (prepared signature octets : List ℕ) : Type 0 where
  pub fields : ListFields Revoked
  pub fields_are : IsTbsCertList fields prepared
  pub named : fields.issuer ≡ issuer.subject
  pub completed : IsListCompleted at asked.strict issuer fields prepared signature octets

-- the certificate or the list that they make below the issuer; a list has one
abbrev pub CompletesAs : AskedFields → List (List ℕ) → RevocationChecks → Moment
    → Option ResourceFields → List ℕ → List ℕ → Made → Type 0
CompletesAs asked path checks at issuer prepared signature (Certificate octets) =
    CompletesBelow asked path checks at issuer prepared signature octets
CompletesAs asked path checks at (Some issuer) prepared signature (made.RevocationList octets) =
    CompletesListBelow asked at issuer.cert.fields prepared signature octets
CompletesAs asked path checks at issuer prepared signature given = ⊥

-- the two files are these, and this is what they make, by the lists that are given
pub record Completes (asked : AskedFields) (inputs : InputFields) (at : Moment)
    (given : Made) : Type 0 where
  pub issuer : Option ResourceFields
  pub issuer_is : IsRequestIssuer (context_of asked at) inputs.issuers inputs.lists issuer
  pub prepared : List ℕ
  pub signature : List ℕ
  pub files_are : inputs.files ≡ prepared ∷ signature ∷ []
  pub completes : IsSoAsked (context_of asked at) inputs.lists
      (λ checks. CompletesAs asked inputs.issuers checks at issuer prepared signature given)

-- The octets are a certificate of a key that the RPKI uses, which has the issuer's name and is
-- accepted below the issuer as of this kind, which it says (RFC 6487 4.4, 7.2).
pub record IsAcceptedCertificate (x : Context) (checks : RevocationChecks)
    (issuer : Option ResourceFields) (kind : Kind) (octets : List ℕ) : Type 0 where
  pub cert : CertFields
  pub is_certificate : IsCertificate cert octets
  pub usable : IsUsableKey cert.fields.key
  pub named : HasIssuerName issuer cert.fields
  pub kind_is : IsCompletedAs issuer cert.fields kind
  pub accepted : IsAcceptedBelow x checks kind issuer octets

-- the octets are a list that answers for this issuer (RFC 6487 5)
abbrev pub AnswersForIssuer : Context → Option ResourceFields → List ℕ → Type 0
AnswersForIssuer x None octets = ⊥
AnswersForIssuer x (Some issuer) octets =
    (f : ListFields Revoked) × IsAnsweringList x issuer.cert.fields f octets

-- a certificate is accepted below this issuer, and a list answers for it
abbrev pub IsAcceptedMade : Context → RevocationChecks → Option ResourceFields → Made → Type 0
IsAcceptedMade x checks issuer (ToSign octets) = ⊥
IsAcceptedMade x checks issuer (Certificate octets) =
    (kind : Kind) × IsAcceptedCertificate x checks issuer kind octets
IsAcceptedMade x checks issuer (made.RevocationList octets) = AnswersForIssuer x issuer octets

-- What is completed is accepted by the same files. A certificate: with it behind the issuer's path,
-- the verdict on the path is that it is accepted, by the lists that are given. A list: it answers for
-- the issuer that the files are.
abbrev pub IsAcceptedOf : AskedFields → InputFields → Moment → Made → Type 0
IsAcceptedOf asked inputs at (ToSign octets) = ⊥
IsAcceptedOf asked inputs at (Certificate octets) =
    (judged : Judged) × IsVerdictBy (context_of asked at) chained
    (inputs.issuers ++ octets ∷ []) inputs.lists (Accepted judged)
IsAcceptedOf asked inputs at (made.RevocationList octets) =
    IsSoBelow asked inputs at (λ issuer. AnswersForIssuer (context_of asked at) issuer octets)

-- ---- the whole

-- octets that are to be signed are given, and they are such
abbrev pub GivesToSign : (List ℕ → Type 0) → Made → Type 0
GivesToSign Are (ToSign octets) = Are octets
GivesToSign Are given = ⊥

-- what an errand gives: octets that are to be signed, or a certificate or a list
abbrev pub FulfilsAs : Errand → AskedFields → InputFields → Moment → Made → Type 0
FulfilsAs Authority asked inputs at given =
    GivesToSign (Prepares kind.Authority asked inputs at) given
FulfilsAs EndEntity asked inputs at given =
    GivesToSign (Prepares kind.EndEntity asked inputs at) given
FulfilsAs Detached asked inputs at given =
    GivesToSign (Prepares kind.Detached asked inputs at) given
FulfilsAs Router asked inputs at given = GivesToSign (Prepares kind.Router asked inputs at) given
FulfilsAs Anchor asked inputs at given = GivesToSign (Prepares kind.Anchor asked inputs at) given
FulfilsAs RevocationList asked inputs at given = GivesToSign (PreparesList asked inputs at) given
FulfilsAs Completion asked inputs at given = Completes asked inputs at given

-- what is asked gives this, with these files at this moment
abbrev pub Fulfils : AskedFields → InputFields → Moment → Made → Type 0
Fulfils asked inputs at given = FulfilsAs asked.errand asked inputs at given
