-- What is answered to what a caller wants of a certificate: the octets that are to be signed, those
-- of the certificate, or why there are none (own).
use Rattle.std.specs.Prelude.{◌≡◌, ◌≢◌, ◌⊎◌, ◌<◌, ℕ, List, [], Option, Some, None, option_map}
use Rattle.std.specs.Prelude.{Result, Ok, Err}
use Rattle.rpki_cert.specs.Certificates.{TbsFields, IsTbsCertificate}
use Rattle.rpki_cert.specs.Verification.{ResourceFields}
use Rattle.rpki_cert.specs.declared.inspect.Kind.{Kind}
use Rattle.rpki_cert.specs.declared.inspect.Kind.TheVariants.{Anchor}
use Rattle.rpki_keys.specs.KeyForms.{IsUsableKey}
use Rattle.rpki_parts.specs.Keys.{KeyFields, IsPublicKey}
use Rattle.rpki_parts.specs.Names.{IsName}
use Rattle.rpki_parts.specs.Uris.{IsHttps, IsRsync}
use Rattle.rpki_path.specs.Asking.{RevocationChecks}
use Rattle.rpki_issuing.specs.Acceptance.{IsAcceptedBelow}
use Rattle.rpki_issuing.specs.AskedFields.{fields_asked, subject_asked}
use Rattle.rpki_issuing.specs.Issuers.{HasIssuerName, fields_above}
use Rattle.rpki_issuing.specs.PreparedOctets.{IsCompleted, IsPrepared, IsToSign, IsUncompleted, IsUnprepared}
use Rattle.rpki_issuing.specs.declared.wanted.preparing.WantedError.{WantedError}
use Rattle.rpki_issuing.specs.declared.wanted.preparing.WantedError.TheVariants as wanting
use Rattle.rpki_issuing.specs.declared.wanted.wanted.Wanted.{Wanted}
use Rattle.rpki_c.specs.Verdicts.{AskedCrls, IsAcceptedQuestion, IsRefusedOn}
use Rattle.rpki_c.specs.Verdicts.{asked_by, asks_nobody, checks_by, asked_context}
use Rattle.rpki_c.specs.WantedQuestions.{GivesWantedValues, HasCompletionTerms, HasNoCompletionTerms, HasNoWantedTerms}
use Rattle.rpki_c.specs.WantedQuestions.{HasWantedTerms, IsKeyGiven}
use Rattle.rpki_c.specs.declared.certificates.CertUri.{CertUri}
use Rattle.rpki_c.specs.declared.certificates.CertUri.TheVariants as uri
use Rattle.rpki_c.specs.declared.completing.CompletionTerms.{CompletionTerms}
use Rattle.rpki_c.specs.declared.completing.RpkiCompletion.{RpkiCompletion}
use Rattle.rpki_c.specs.declared.judging.Accepted.{Accepted}
use Rattle.rpki_c.specs.declared.question.RpkiQuestion.{RpkiQuestion}
use Rattle.rpki_c.specs.declared.question.Terms.{Terms}
use Rattle.rpki_c.specs.declared.unissued.Unissued.{Unissued}
use Rattle.rpki_c.specs.declared.unissued.Unissued.TheVariants as why
use Rattle.rpki_c.specs.declared.wanted.RpkiUris.{RpkiUris}
use Rattle.rpki_c.specs.declared.wanted.RpkiWanted.{RpkiWanted}
use Rattle.rpki_c.specs.declared.wanted.WantedTerms.{WantedTerms}

-- ---- values

-- the octets of a URI that is wanted
abbrev pub uri_wanted : CertUri → RpkiUris → List ℕ
uri_wanted uri.CaIssuer uris = uris.ca_issuer.now
uri_wanted uri.Crl uris = uris.crl.now
uri_wanted uri.Repository uris = uris.repository.now
uri_wanted uri.Manifest uris = uris.manifest.now
uri_wanted uri.SignedObject uris = uris.signed_object.now
uri_wanted uri.Notify uris = uris.notify.now

-- the form that it has to have
abbrev pub HasUriForm : CertUri → List ℕ → Type 0
HasUriForm uri.Notify octets = IsHttps octets
HasUriForm which octets = IsRsync octets

-- the octets are no such URI, and are there
abbrev pub IsBadUri : RpkiUris → CertUri → Type 0
IsBadUri uris which = (uri_wanted which uris ≢ []) × (HasUriForm which (uri_wanted which uris) → ⊥)

-- the octets are none of what has this text
abbrev pub IsNoText : {V : Type 0} → (V → List ℕ → Type 0) → List ℕ → Type 0
IsNoText {V} IsText octets = (v : V) → IsText v octets → ⊥

-- the octets are no key, or that of one that the RPKI doesn't use
abbrev pub IsNoKey : List ℕ → Type 0
IsNoKey octets = (key : KeyFields) → IsPublicKey key octets → ⊥

abbrev pub IsUnusedKey : List ℕ → Type 0
IsUnusedKey octets = (key : KeyFields) × IsPublicKey key octets × (IsUsableKey key → ⊥)

-- a value of which it is so; or numbers that don't fit, so that it is so of none; or what is wrong
-- of a URI or of the key; or memory was wanted
abbrev pub AnswersValue : {V : Type 0} → RpkiWanted → (V → Type 0) → Result V Unissued → Type 0
AnswersValue {V} w Is (Ok v) = Is v
AnswersValue {V} w Is (Err why.BadCall) = (v : V) → Is v → ⊥
AnswersValue {V} w Is (Err (why.BadUri which)) = IsBadUri w.uris which
AnswersValue {V} w Is (Err why.NoKey) = IsNoKey w.key.now
AnswersValue {V} w Is (Err why.UnusedKey) = IsUnusedKey w.key.now
AnswersValue {V} w Is (Err why.Memory) = Unit {0}
AnswersValue {V} w Is (Err _) = ⊥

-- ---- who issues

-- a trust anchor has no path above it; the path of another certificate ends in a CA
abbrev pub EndsWell : Kind → RpkiQuestion → Type 0
EndsWell kind q = ((kind ≡ Anchor) × (q.members.lengths.now ≡ [])) ⊎ ((kind ≢ Anchor) × (q.last < 2))

-- the path that is asked about is accepted, and ends in a CA
abbrev pub IsAuthorityOf : RpkiQuestion → Terms → Accepted → Type 0
IsAuthorityOf q t it = (q.last < 2) × IsAcceptedQuestion q t it

-- why there is none: the path ends in no CA, or isn't accepted
abbrev pub IsWhyNoIssuer : RpkiQuestion → Terms → Unissued → Type 0
IsWhyNoIssuer q t why.BadCall = q.last < 2 → ⊥
IsWhyNoIssuer q t (why.Issuer r) = IsRefusedOn q t r
IsWhyNoIssuer q t _ = ⊥

-- nobody above a trust anchor; else the path that ends in the CA
abbrev pub IsWantedIssuer : Kind → RpkiQuestion → Terms → Option Accepted → Type 0
IsWantedIssuer kind q t None = (kind ≡ Anchor) × (q.members.lengths.now ≡ [])
IsWantedIssuer kind q t (Some above) = (kind ≢ Anchor) × IsAuthorityOf q t above

-- why nobody issues: the path doesn't go with the kind, or isn't accepted
abbrev pub IsNoIssuer : Kind → RpkiQuestion → Terms → Unissued → Type 0
IsNoIssuer kind q t why.BadCall = EndsWell kind q → ⊥
IsNoIssuer kind q t (why.Issuer r) = (kind ≢ Anchor) × IsRefusedOn q t r
IsNoIssuer kind q t _ = ⊥

-- ---- the issuer's path; above a trust anchor there is none, and nobody is asked

-- the issuer's certificate, and what it holds
abbrev pub issuer_above : Option Accepted → Option ResourceFields
issuer_above above = option_map (λ it. it.judged.holder) above

-- the certificates of its path
abbrev pub strings_above : Option Accepted → List (List ℕ)
strings_above None = []
strings_above (Some it) = it.path.items

-- who answers for revocation: the lists, as for the issuer's path, if they are asked
abbrev pub asked_above : Terms → Option Accepted → AskedCrls
asked_above t None = asks_nobody
asked_above t (Some it) = asked_by t it.lists.items

abbrev pub checks_above : Terms → Option Accepted → RevocationChecks
checks_above t above = checks_by (asked_above t above) (asked_context t)

-- ---- what is prepared

-- the values that are given, and the key
abbrev pub GivesValues : RpkiWanted → WantedTerms → (Wanted × KeyFields) → Type 0
GivesValues w t values = GivesWantedValues w t values.0 × IsKeyGiven w.key.now values.1

-- the subject's name
abbrev pub subject_of : WantedTerms → (Wanted × KeyFields) → List ℕ
subject_of t values = subject_asked t.kind values.0.numbers.systems values.1

-- the fields that are asked for below this issuer; and their subject is a name
pub record WantsFields (w : RpkiWanted) (t : WantedTerms) (issuer : Option ResourceFields)
    (f : TbsFields) : Type 0 where
  pub values : Wanted × KeyFields
  pub given : GivesValues w t values
  pub named : IsName (subject_of t values) (subject_of t values)
  pub fields_are : f ≡ fields_asked t.kind t.trims values.0 (fields_above issuer) values.1

-- values are given whose subject has no name
abbrev pub IsUnnamed : RpkiWanted → WantedTerms → Type 0
IsUnnamed w t =
    (values : Wanted × KeyFields) × GivesValues w t values
    × (IsName (subject_of t values) (subject_of t values) → ⊥)

-- the fields, or why there are none
abbrev pub AnswersFields : RpkiWanted → WantedTerms → Option ResourceFields → Result TbsFields Unissued → Type 0
AnswersFields w t issuer (Ok f) = WantsFields w t issuer f
AnswersFields w t issuer (Err why.NoName) = IsUnnamed w t
AnswersFields w t issuer (Err e) = AnswersValue w (GivesValues w t) (Err e)

-- why nothing is prepared or completed, as it is told
abbrev pub unfit_of : WantedError → Unissued
unfit_of wanting.Memory = why.Memory
unfit_of e = why.Unfit e

-- the octets of these fields, of which only the signature is missing below the issuer; or why they
-- aren't ready to be signed, or aren't there
abbrev pub AnswersBelow : RpkiWanted → WantedTerms → Option Accepted → Result (List ℕ) Unissued
    → Type 0
AnswersBelow w t above (Ok octets) =
    (f : TbsFields) × WantsFields w t (issuer_above above) f
    × IsPrepared t.kind (issuer_above above) (strings_above above) (checks_above t.asked above)
    t.asked.now t.asked.strict f octets
AnswersBelow w t above (Err (why.Unfit e)) =
    (f : TbsFields) × WantsFields w t (issuer_above above) f
    × IsUnprepared t.kind (issuer_above above) (strings_above above) (checks_above t.asked above)
    t.asked.now t.asked.strict f e
AnswersBelow w t above (Err e) = AnswersFields w t (issuer_above above) (Err e)

-- the octets that are to be signed of the certificate that is wanted, below who issues, or why there
-- are none
abbrev pub AnswersWanted : RpkiWanted → Result (List ℕ) Unissued → Type 0
AnswersWanted w r =
    (HasNoWantedTerms w × (r ≡ Err why.BadCall))
    ⊎ ((t : WantedTerms) × HasWantedTerms w t
    × (((e : Unissued) × (r ≡ Err e) × IsNoIssuer t.kind w.issuer t.asked e)
    ⊎ ((above : Option Accepted) × IsWantedIssuer t.kind w.issuer t.asked above
    × AnswersBelow w t above r)))

-- ---- what is completed

-- the fields of what was signed below this issuer, or why there are none
abbrev pub AnswersSigned : Option ResourceFields → List ℕ → Result TbsFields Unissued → Type 0
AnswersSigned issuer octets (Ok f) = IsToSign f octets × HasIssuerName issuer f
AnswersSigned issuer octets (Err why.NotToSign) = (f : TbsFields) → IsTbsCertificate f octets → ⊥
AnswersSigned issuer octets (Err why.UnusedKey) =
    (f : TbsFields) × IsTbsCertificate f octets × (IsUsableKey f.key → ⊥)
AnswersSigned issuer octets (Err why.OtherName) =
    (f : TbsFields) × IsToSign f octets × (HasIssuerName issuer f → ⊥)
AnswersSigned issuer octets (Err why.Memory) = Unit {0}
AnswersSigned issuer octets (Err _) = ⊥

-- the certificate that the signature makes of these fields below the issuer, where it is accepted by
-- who is asked for revocation; or why there is none
abbrev pub AnswersCompletedBelow : RpkiCompletion → CompletionTerms → Option Accepted
    → Result (List ℕ) Unissued → Type 0
AnswersCompletedBelow c t above (Ok octets) =
    (f : TbsFields) × IsToSign f c.prepared.now × HasIssuerName (issuer_above above) f
    × IsCompleted t.kind (issuer_above above) (strings_above above) (checks_above t.asked above)
    t.asked.now t.asked.strict f c.prepared.now c.signature.now octets
    × IsAcceptedBelow (asked_context t.asked) (checks_above t.asked above) t.kind
    (issuer_above above) octets
AnswersCompletedBelow c t above (Err (why.Unfit e)) =
    (f : TbsFields) × IsToSign f c.prepared.now × HasIssuerName (issuer_above above) f
    × IsUncompleted t.kind (issuer_above above) (strings_above above) (checks_above t.asked above)
    t.asked.now t.asked.strict f c.prepared.now c.signature.now e
AnswersCompletedBelow c t above (Err e) = AnswersSigned (issuer_above above) c.prepared.now (Err e)

-- the certificate that is completed, or why there is none
abbrev pub AnswersCompletion : RpkiCompletion → Result (List ℕ) Unissued → Type 0
AnswersCompletion c r =
    (HasNoCompletionTerms c × (r ≡ Err why.BadCall))
    ⊎ ((t : CompletionTerms) × HasCompletionTerms c t
    × (((e : Unissued) × (r ≡ Err e) × IsNoIssuer t.kind c.issuer t.asked e)
    ⊎ ((above : Option Accepted) × IsWantedIssuer t.kind c.issuer t.asked above
    × AnswersCompletedBelow c t above r)))
