-- What is shown of a certificate, as a document (own).
use Rattle.std.specs.Prelude.{◌≡◌, ℕ, Bool, if◌then◌else◌, List, [], ◌∷◌, ◌++◌, map, codes, Option, Some, None}
use Rattle.rpki_blocks.specs.declared.overclaim.Overclaim.{Overclaim}
use Rattle.rpki_blocks.specs.declared.overclaim.Overclaim.TheVariants.{Refuse, Trim}
use Rattle.rpki_cert.specs.Certificates.{CertFields, TbsFields}
use Rattle.rpki_cert.specs.declared.inspect.Kind.{Kind}
use Rattle.rpki_cert.specs.declared.inspect.Kind.TheVariants.{Anchor, Authority, EndEntity, Detached, Router}
use Rattle.rpki_der.specs.Times.{Moment}
use Rattle.rpki_document.specs.Documents.{ToldValue, text, characters, words, count, printed, Span, say, tell, keep, Node}
use Rattle.rpki_document.specs.Documents.{line, inside, each, document_of, item_node, told_line}
use Rattle.rpki_ext.specs.CertificateExtensions.{ExtensionFields}
use Rattle.rpki_ext.specs.Inspection.{inspection_error_name}
use Rattle.rpki_ext.specs.declared.inspection.InspectionError.{InspectionError}
use Rattle.rpki_ext.specs.declared.key_usage.KeyUsage.{KeyUsage}
use Rattle.rpki_ext.specs.declared.key_usage.KeyUsage.TheVariants.{Ca, Ee}
use Rattle.rpki_parts.specs.NameTexts.{name_text}
use Rattle.rpki_parts.specs.Validities.{ValidityFields}
use Rattle.rpki_text.specs.Facts.{AreFacts, fact_view}
use Rattle.rpki_text.specs.CertificateTexts.{AreFindings, answer_for}
use Rattle.rpki_text.specs.IdentifierTexts.{identifier_text}
use Rattle.rpki_text.specs.KeyTexts.{key_text}
use Rattle.rpki_text.specs.Notes.{AreNotes}
use Rattle.rpki_text.specs.NoteTexts.{note_name, note_section, note_text}
use Rattle.rpki_text.specs.declared.certificate.Answers.{Answers}
use Rattle.rpki_text.specs.declared.certificate.Findings.{Findings}
use Rattle.rpki_text.specs.declared.keys.KeyAnswer.{KeyAnswer}
use Rattle.rpki_text.specs.declared.notes.fact.Fact.{Fact}
use Rattle.rpki_text.specs.declared.notes.fact.FactKind.{FactKind}
use Rattle.rpki_text.specs.declared.notes.fact.FactKind.TheVariants as fact
use Rattle.rpki_text.specs.declared.notes.note.Note.{Note}
use Rattle.rpki_answers.specs.declared.showing.Options.{Options}
use Rattle.rpki_answers.specs.RejectionDetails.{identifier_nodes, uri_nodes}
use Rattle.rpki_answers.specs.ToldValues.{identifier_told, key_nodes, kind_told, listed_nodes, moment_told, serial_told, until_line}

-- ---- fields

-- what rpki-client calls a certificate of the kind
abbrev pub type_word : Kind → List ℕ
type_word Anchor = codes "ca_cert"
type_word Authority = codes "ca_cert"
type_word EndEntity = codes "ee_cert"
type_word Detached = codes "ee_cert"
type_word Router = codes "router_key"

-- what it is, in our words and in rpki-client's
abbrev pub typed_line : ToldValue → List ℕ → Node
typed_line kind word = line (codes "Kind") (tell (codes "kind") kind ∷ keep (codes "type") (text word) ∷ [])

abbrev pub kind_line : Kind → Node
kind_line kind = typed_line (kind_told kind) (type_word kind)

-- its version and its algorithm, which are those of every certificate (RFC 6487 4.1, RFC 7935 2), its
-- number, and its names
abbrev pub field_nodes : TbsFields → List Node
field_nodes f =
    told_line (codes "Version") (codes "version") (count 3)
    ∷ told_line (codes "Serial number") (codes "cert_serial") (serial_told f.serial)
    ∷ told_line (codes "Signature algorithm") (codes "signature_algorithm") (text (codes "sha256WithRSAEncryption"))
    ∷ told_line (codes "Issuer") (codes "cert_issuer") (printed (name_text f.issuer))
    ∷ told_line (codes "Subject") (codes "cert_subject") (printed (name_text f.subject))
    ∷ []

-- its validity at a time
abbrev pub validity_nodes : ValidityFields → Moment → List Node
validity_nodes v now =
    told_line (codes "Valid from") (codes "valid_since") (moment_told v.not_before)
    ∷ until_line (codes "Valid until") (codes "valid_until") (codes "expires") (codes "expired") v.not_before v.not_after now
    ∷ []

-- what its key may be used for (RFC 6487 4.8.4)
abbrev pub usage_told : KeyUsage → ToldValue
usage_told Ca = words (codes "keyCertSign, cRLSign") (codes "ca")
usage_told Ee = words (codes "digitalSignature") (codes "ee")

-- its key, of which this was found, and its issuer's
abbrev pub own_key_nodes : TbsFields → KeyAnswer → List Node
own_key_nodes f found =
    inside (codes "key") (document_of (key_nodes (codes "Key") (text (key_text found)) (Some (codes "Point")) f.key found))
    ∷ told_line (codes "Subject key identifier") (codes "ski") (identifier_told f.extensions.subject_key_identifier)
    ∷ (identifier_nodes (codes "Authority key identifier") (codes "aki") f.extensions.authority_key_identifier
    ++ told_line (codes "Key usage") (codes "key_usage") (usage_told f.extensions.key_usage) ∷ [])

-- where things are
abbrev pub place_nodes : ExtensionFields → List Node
place_nodes x =
    uri_nodes (codes "Authority info access") (codes "aia") x.ca_issuer
    ++ (uri_nodes (codes "CRL distribution point") (codes "crl") x.crl_uri
    ++ (uri_nodes (codes "Repository") (codes "carepository") x.access.ca_repository
    ++ (uri_nodes (codes "Manifest") (codes "manifest") x.access.rpki_manifest
    ++ (uri_nodes (codes "Signed object") (codes "signed_object") x.access.signed_object
    ++ uri_nodes (codes "Notify URL") (codes "notify_url") x.access.rpki_notify))))

-- what becomes of resources beyond the issuer's
abbrev pub overclaim_told : Overclaim → ToldValue
overclaim_told Refuse = words (codes "rejected (RFC 6484 policy)") (codes "reject")
overclaim_told Trim = words (codes "trimmed (RFC 8360 policy)") (codes "trim")

abbrev pub own_resource_nodes : ExtensionFields → List Node
own_resource_nodes x =
    told_line (codes "Overclaimed resources") (codes "overclaim") (overclaim_told x.overclaim)
    ∷ each (codes "subordinate_resources") (document_of (
    listed_nodes (codes "AS resources") (codes "IPv4 resources") (codes "IPv6 resources") x))
    ∷ []

-- ---- profiles

-- whether a profile is met, or what isn't of it
abbrev pub answer_spans : List ℕ → Option InspectionError → List Span
answer_spans key None = tell key (words (codes "met") (codes "OK")) ∷ []
answer_spans key (Some fault) = say (codes "not met: ") ∷ tell key (text (inspection_error_name fault)) ∷ []

abbrev pub profile_line : List ℕ → List ℕ → Option InspectionError → Node
profile_line label key answer = line label (answer_spans key answer)

-- each profile (RFC 6487 4, RFC 8209 3)
abbrev pub each_profile : Answers → List Node
each_profile a =
    profile_line (codes "Trust anchor profile") (codes "ta") a.anchor
    ∷ profile_line (codes "CA profile") (codes "ca") a.authority
    ∷ profile_line (codes "EE profile") (codes "ee") a.end_entity
    ∷ profile_line (codes "Detached EE profile") (codes "detached_ee") a.detached
    ∷ profile_line (codes "Router profile") (codes "router") a.router
    ∷ []

-- if all is asked
abbrev pub all_profiles : Bool → Answers → List Node
all_profiles all a = if all then inside (codes "profiles") (document_of (each_profile a)) ∷ [] else []

-- that of its own kind, and the others
abbrev pub profile_nodes : Bool → Findings → List Node
profile_nodes all found =
    profile_line (codes "Profile") (codes "profile") (answer_for found.kind found.answers)
    ∷ all_profiles all found.answers

-- ---- what it says beside its fields

-- the label of a fact, and its key
abbrev pub fact_label : FactKind → List ℕ
fact_label fact.UnknownExtension = codes "Unknown extension"
fact_label fact.PracticeStatement = codes "Practice statement"
fact_label fact.FurtherList = codes "Further CRL"
fact_label fact.FurtherIssuer = codes "Further authority info"
fact_label fact.FurtherRepository = codes "Further repository"
fact_label fact.FurtherManifest = codes "Further manifest"
fact_label fact.FurtherObject = codes "Further signed object"
fact_label fact.FurtherNotify = codes "Further notify URL"
fact_label fact.UnknownMethod = codes "Unknown access method"
fact_label fact.MethodUri = codes "URI of that method"

abbrev pub fact_word : FactKind → List ℕ
fact_word fact.UnknownExtension = codes "unknown_extension"
fact_word fact.PracticeStatement = codes "practice_statement"
fact_word fact.FurtherList = codes "further_crl"
fact_word fact.FurtherIssuer = codes "further_aia"
fact_word fact.FurtherRepository = codes "further_carepository"
fact_word fact.FurtherManifest = codes "further_manifest"
fact_word fact.FurtherObject = codes "further_signed_object"
fact_word fact.FurtherNotify = codes "further_notify_url"
fact_word fact.UnknownMethod = codes "unknown_access_method"
fact_word fact.MethodUri = codes "method_uri"

-- an identifier; those of others are URIs
abbrev pub fact_told : FactKind → List ℕ → ToldValue
fact_told fact.UnknownExtension octets = text (identifier_text octets)
fact_told fact.UnknownMethod octets = text (identifier_text octets)
fact_told _ octets = characters octets

abbrev pub fact_node : Fact → Node
fact_node f = inside [] (document_of (
    told_line (fact_label f.kind) (fact_word f.kind) (fact_told f.kind f.octets.now) ∷ []))

-- a note: its word, its sentence, and the section that the certificate breaks
abbrev pub noted_line : List ℕ → List ℕ → List ℕ → Node
noted_line name says section = item_node (codes "Note") (
    keep (codes "note") (text name) ∷ tell (codes "why") (text says)
    ∷ say (codes " (") ∷ tell (codes "standard") (text section) ∷ say (codes ")") ∷ [])

abbrev pub note_line : Note → Node
note_line note = noted_line (note_name note) (note_text note) (note_section note)

abbrev pub remark_nodes : List Fact → List Note → List Node
remark_nodes facts notes =
    each (codes "further") (document_of (map fact_node facts))
    ∷ each (codes "notes") (document_of (map note_line notes))
    ∷ []

-- ---- the whole

-- the fields of a certificate at a time, and what was found of it
abbrev pub certificate_nodes : TbsFields → Moment → Bool → Findings → List Node
certificate_nodes f now all found =
    kind_line found.kind
    ∷ (field_nodes f
    ++ (validity_nodes f.validity now
    ++ (own_key_nodes f found.key
    ++ (place_nodes f.extensions
    ++ (own_resource_nodes f.extensions
    ++ profile_nodes all found)))))

-- what is shown of the certificate that the octets begin with, but for its signature
pub record IsShownCertificate (options : Options) (octets : List ℕ) (c : CertFields) (nodes : List Node) : Type 0 where
  pub found : Findings
  pub found_is : AreFindings options.strict c found
  pub facts : List Fact
  pub facts_are : AreFacts octets (map fact_view facts)
  pub notes : List Note
  pub notes_are : AreNotes octets notes
  pub nodes_are : nodes ≡
      certificate_nodes c.fields options.at options.all found ++ remark_nodes facts notes
