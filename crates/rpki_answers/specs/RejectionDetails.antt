-- What a rejection tells beside its rule, so that its reader can act (own): which list is wanted,
-- which keys differ, which moment is over, what else a file is that is no certificate, and that the
-- files stand the other way round.
use Rattle.std.specs.Option.{option_map}
use Rattle.std.specs.Prelude.{◌≡◌, ◌↔◌, ◌-◌, ℕ, Bool, IsTrue, if◌then◌else◌, List, [], ◌∷◌, ◌++◌, length, codes}
use Rattle.std.specs.Prelude.{slice_get, Option, Some, None}
use Rattle.rpki_cert.specs.Certificates.{CertFields, IsCertificate}
use Rattle.rpki_der.specs.Encoding.{Means}
use Rattle.rpki_cert.specs.declared.inspect.Kind.TheVariants.{Anchor}
use Rattle.rpki_cert.specs.Profiles.{MeetsProfile}
use Rattle.rpki_der.specs.Times.{Moment}
use Rattle.rpki_files.specs.FileSorts.{IsToldSort}
use Rattle.rpki_files.specs.Files.{FileFields}
use Rattle.rpki_files.specs.SortTexts.{sort_description}
use Rattle.rpki_files.specs.declared.sorts.Sort.{Sort}
use Rattle.rpki_document.specs.Documents.{text, characters, say, tell, Node, line, told_line}
use Rattle.rpki_verdicts.specs.PathFiles.{QuestionFields}
use Rattle.rpki_verdicts.specs.declared.path.Fault.{Fault}
use Rattle.rpki_answers.specs.ToldValues.{identifier_told, moment_told}
use Rattle.rpki_answers.specs.declared.details.Cause.{Cause}
use Rattle.rpki_answers.specs.declared.details.Cause.TheVariants.{NoList, OtherKey, NotYetValid, Expired, Other}
use Rattle.rpki_answers.specs.declared.details.Details.{Details}

-- ---- which faults

-- the fault has this name, in this step
abbrev pub HasStepAndName : List ℕ → List ℕ → Fault → Type 0
HasStepAndName step name fault = (fault.step.now ≡ step) × (fault.name.now ≡ name)

-- the fault has this cause, of which there is more to tell; or it has none of them
abbrev pub IsCause : Cause → Fault → Type 0
IsCause NoList fault = HasStepAndName (codes "revocation") (codes "NoCrl") fault
IsCause OtherKey fault = HasStepAndName (codes "verification") (codes "WrongKeyId") fault
IsCause NotYetValid fault = HasStepAndName (codes "verification") (codes "NotYetValid") fault
IsCause Expired fault = HasStepAndName (codes "verification") (codes "Expired") fault
IsCause Other fault =
    (HasStepAndName (codes "revocation") (codes "NoCrl") fault → ⊥)
    × (HasStepAndName (codes "verification") (codes "WrongKeyId") fault → ⊥)
    × (HasStepAndName (codes "verification") (codes "NotYetValid") fault → ⊥)
    × (HasStepAndName (codes "verification") (codes "Expired") fault → ⊥)

-- ---- of which certificates

-- the certificate that the file at this place begins with, if there is one and it begins with one
abbrev pub IsCertificateAt : List FileFields → ℕ → Option CertFields → Type 0
IsCertificateAt files place (Some c) =
    (file : FileFields) × (slice_get files place ≡ Some file) × Means IsCertificate c file.octets
IsCertificateAt files place None =
    (file : FileFields) → slice_get files place ≡ Some file → (c : CertFields) → Means IsCertificate c file.octets → ⊥

-- it is a trust anchor, by the profile of one
abbrev pub IsAnchor : Bool → Option CertFields → Type 0
IsAnchor strict None = ⊥
IsAnchor strict (Some c) = MeetsProfile Anchor strict c

-- of files that begin and end with these certificates: the last one is a trust anchor, and the
-- first one isn't
abbrev pub IsTurned : Bool → Option CertFields → Option CertFields → Type 0
IsTurned strict first last = IsAnchor strict last × (IsAnchor strict first → ⊥)

-- whether the files stand so
abbrev pub TellsOrder : Bool → List FileFields → Bool → Type 0
TellsOrder strict files is_turned =
    (first : Option CertFields) × (last : Option CertFields) × IsCertificateAt files 0 first
    × IsCertificateAt files (length files - 1) last × (IsTrue is_turned ↔ IsTurned strict first last)

-- the sort of the file at this place, if there is one and it is of one
abbrev pub IsSortAt : List FileFields → ℕ → Option Sort → Type 0
IsSortAt files place (Some s) =
    (file : FileFields) × (slice_get files place ≡ Some file) × IsToldSort file.octets (Some s)
IsSortAt files place None = (file : FileFields) → slice_get files place ≡ Some file → IsToldSort file.octets None

-- the cause of the fault, the moment that was asked, the certificates of the member at its place
-- and of the one above it, the sort of that member's file, and the order of the files
pub record AreDetails (question : QuestionFields) (fault : Fault) (d : Details) : Type 0 where
  pub cause_is : IsCause d.cause fault
  pub moment_is : d.moment ≡ question.at
  pub member_is : IsCertificateAt question.members fault.index (option_map (λ c. c.now) d.member)
  pub above_is : IsCertificateAt question.members (fault.index - 1) (option_map (λ c. c.now) d.above)
  pub sort_is : IsSortAt question.members fault.index d.sort
  pub order_is : TellsOrder question.strict question.members d.is_turned

-- ---- in a document

-- the identifier of a key, if it is there
abbrev pub identifier_nodes : List ℕ → List ℕ → Option (List ℕ) → List Node
identifier_nodes label key None = []
identifier_nodes label key (Some octets) = told_line label key (identifier_told octets) ∷ []

-- where the CRL is
abbrev pub uri_nodes : List ℕ → List ℕ → Option (List ℕ) → List Node
uri_nodes label key None = []
uri_nodes label key (Some uri) = told_line label key (characters uri) ∷ []

-- an end of a period, and the time at which is judged
abbrev pub bound_node : List ℕ → List ℕ → Moment → Moment → Node
bound_node label key bound at = line label (
    tell key (moment_told bound) ∷ say (codes ", validation time ") ∷ tell (codes "validation_time") (moment_told at) ∷ [])

-- the identifier of the issuer's key, and that of the certificate's own
abbrev pub issuer_key : CertFields → Option (List ℕ)
issuer_key c = c.fields.extensions.authority_key_identifier

abbrev pub own_key : CertFields → List ℕ
own_key c = c.fields.extensions.subject_key_identifier

-- of a certificate, and the one above it: the CRL that is needed, and the key that has to sign it;
-- the keys that should be one; the end of the period that is over or hasn't begun
abbrev pub cause_nodes : Cause → Moment → CertFields → Option CertFields → List Node
cause_nodes NoList at c above =
    uri_nodes (codes "CRL needed") (codes "crl_needed") c.fields.extensions.crl_uri
    ++ identifier_nodes (codes "Issuer's key") (codes "aki") (issuer_key c)
cause_nodes OtherKey at c above =
    identifier_nodes (codes "Issuer's key") (codes "aki") (issuer_key c)
    ++ identifier_nodes (codes "Key above") (codes "ski_above") (option_map own_key above)
cause_nodes NotYetValid at c above =
    bound_node (codes "Valid from") (codes "valid_since") c.fields.validity.not_before at ∷ []
cause_nodes Expired at c above =
    bound_node (codes "Valid until") (codes "valid_until") c.fields.validity.not_after at ∷ []
cause_nodes Other at c above = []

-- the same if the file begins with a certificate
abbrev pub member_nodes : Cause → Moment → Option CertFields → Option CertFields → List Node
member_nodes cause at None above = []
member_nodes cause at (Some c) above = cause_nodes cause at c above

-- what is said of files that stand the other way round
abbrev pub order_text : List ℕ
order_text = codes "expected the files from the trust anchor down, but the last one is a trust anchor"

abbrev pub order_nodes : Bool → List Node
order_nodes is_turned = if is_turned then told_line (codes "Order") (codes "order") (text order_text) ∷ [] else []

-- what a file of this sort is, and what to do, if it is of one
abbrev pub sort_nodes : Option Sort → List Node
sort_nodes None = []
sort_nodes (Some s) =
    told_line (codes "Kind") (codes "kind") (text (sort_description s).name)
    ∷ told_line (codes "To do") (codes "advice") (text (sort_description s).advice)
    ∷ []

-- what is told of a rejection beside its rule
abbrev pub details_nodes : Details → List Node
details_nodes d =
    member_nodes d.cause d.moment (option_map (λ c. c.now) d.member) (option_map (λ c. c.now) d.above)
    ++ (sort_nodes d.sort ++ order_nodes d.is_turned)
