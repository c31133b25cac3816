-- What is said of the verdict on a path, as a document (own). Its first line is the verdict.
use Rattle.std.specs.List.{flat_map}
use Rattle.std.specs.Prelude.{◌≡◌, ℕ, suc, ◌-◌, Bool, true, false, ◌==◌, if◌then◌else◌, ◌⊎◌, List, [], ◌∷◌, ◌++◌}
use Rattle.std.specs.Prelude.{length, map, codes, unwrap_or, Option, Some, None, Result, Ok, Err}
use Rattle.rpki_cert.specs.Certificates.{CertFields, IsCertificate}
use Rattle.rpki_cert.specs.SaidKinds.{IsKindOf}
use Rattle.rpki_cert.specs.Verification.{Context, ResourceFields}
use Rattle.rpki_cert.specs.declared.inspect.Kind.{Kind}
use Rattle.rpki_crl.specs.Lists.{IsCertificateList}
use Rattle.rpki_der.specs.Encoding.{Means}
use Rattle.rpki_der.specs.Times.{Moment}
use Rattle.rpki_document.specs.Documents.{ToldValue, text, inner, words, count, flag, Span, say, tell, show, keep, Node}
use Rattle.rpki_document.specs.Documents.{head, line, unsaid, inside, each, document_of, document_json, document_text}
use Rattle.rpki_document.specs.Documents.{item_node, kept_node, told_line}
use Rattle.rpki_files.specs.Contents.{IsList}
use Rattle.rpki_files.specs.Files.{FileFields}
use Rattle.rpki_keys.specs.Locators.{NamedTal}
use Rattle.rpki_keys.specs.declared.tal.tal_error.TalError.{TalError}
use Rattle.rpki_parts.specs.Keys.{key_identifier}
use Rattle.rpki_path.specs.declared.judging.Judged.{Judged}
use Rattle.rpki_text.specs.KeyTexts.{IsKeyAnswer, key_text}
use Rattle.rpki_text.specs.Notes.{AreNotes}
use Rattle.rpki_text.specs.NoteTexts.{note_name, note_section, note_text}
use Rattle.rpki_text.specs.declared.blocks.Family.TheVariants.{V4, V6}
use Rattle.rpki_text.specs.declared.command_line.arguments.Format.{Format}
use Rattle.rpki_text.specs.declared.keys.KeyAnswer.{KeyAnswer}
use Rattle.rpki_text.specs.declared.notes.note.Note.{Note}
use Rattle.rpki_verdicts.specs.GivenLocators.{LocatorFields}
use Rattle.rpki_verdicts.specs.PathFiles.{QuestionFields, IsAnchorLocator}
use Rattle.rpki_verdicts.specs.declared.path.Fault.{Fault}
use Rattle.rpki_verdicts.specs.declared.path.Verdict.TheVariants.{Accepted, Rejected}
use Rattle.rpki_answers.specs.JsonTexts.{json_value_text}
use Rattle.rpki_answers.specs.RejectionDetails.{AreDetails, details_nodes}
use Rattle.rpki_answers.specs.ToldValues.{addresses_node, identifier_told, key_nodes, kind_told, listed_nodes}
use Rattle.rpki_answers.specs.ToldValues.{moment_told, numbers_node, serial_told, set_nodes}
use Rattle.rpki_answers.specs.VerdictTexts.{IsFinding, Leaves, SaysOfEach, file_name_at}
use Rattle.rpki_answers.specs.declared.details.Details.{Details}
use Rattle.rpki_answers.specs.declared.verdict_document.files.About.{About}
use Rattle.rpki_answers.specs.declared.verdict_document.files.About.TheVariants as about
use Rattle.rpki_answers.specs.declared.verdicts.Finding.{Finding}
use Rattle.rpki_answers.specs.declared.verdicts.Finding.TheVariants.{NotALocator, NotAList, Decided}

-- ---- the certificates of the path

-- one by its path index, its kind, its serial number and its file
abbrev pub certificate_node : ℕ → Kind → ℕ → List ℕ → Node
certificate_node index kind serial name = item_node (codes "Certificate") (
    tell (codes "index") (count index) ∷ say (codes ", ") ∷ tell (codes "kind") (kind_told kind)
    ∷ say (codes ", serial ") ∷ tell (codes "serial") (serial_told serial)
    ∷ say (codes ", ") ∷ tell (codes "file") (text name) ∷ [])

-- a file that begins with no certificate
abbrev pub other_node : ℕ → List ℕ → Node
other_node index name = item_node (codes "Certificate") (
    tell (codes "index") (count index) ∷ say (codes ", not a certificate, ")
    ∷ tell (codes "file") (text name) ∷ [])

-- the file begins with a certificate, and this is said of it
pub record IsKnown (strict : Bool) (index : ℕ) (file : FileFields) (node : Node) : Type 0 where
  pub cert : CertFields
  pub begins : Means IsCertificate cert file.octets
  pub kind : Kind
  pub kind_is : IsKindOf kind strict cert
  pub node_is : node ≡ certificate_node index kind cert.fields.serial file.name

-- it begins with none, and this is said of it
pub record IsOtherFileNode (index : ℕ) (file : FileFields) (node : Node) : Type 0 where
  pub none : (cert : CertFields) → Means IsCertificate cert file.octets → ⊥
  pub node_is : node ≡ other_node index file.name

abbrev pub IsCertificateNode : Bool → ℕ → FileFields → Node → Type 0
IsCertificateNode strict index file node = IsKnown strict index file node ⊎ IsOtherFileNode index file node

-- of each file, where the first has this path index
abbrev pub AreCertificates : Bool → ℕ → List FileFields → List Node → Type 0
AreCertificates strict index [] nodes = nodes ≡ []
AreCertificates strict index (file ∷ files) nodes =
    (first : Node) × (more : List Node) × IsCertificateNode strict index file first
    × AreCertificates strict (suc index) files more × (nodes ≡ first ∷ more)

-- ---- what is said of some of the files

-- a note: its sentence, the section that the certificate breaks, and its file
abbrev pub note_node : List ℕ → Note → Node
note_node name note = item_node (codes "Note") (
    keep (codes "note") (text (note_name note)) ∷ tell (codes "why") (text (note_text note))
    ∷ say (codes " (") ∷ tell (codes "standard") (text (note_section note)) ∷ say (codes "): ")
    ∷ show (text name) ∷ [])

-- the notes of a certificate
abbrev pub noted_node : List ℕ → List Note → Node
noted_node name notes = inside [] (document_of (
    kept_node (codes "file") (text name)
    ∷ each (codes "notes") (document_of (map (note_node name) notes))
    ∷ []))

-- if it has some
abbrev pub noted_nodes : List ℕ → List Note → List Node
noted_nodes name [] = []
noted_nodes name (note ∷ notes) = noted_node name (note ∷ notes) ∷ []

abbrev pub AreNoted : FileFields → List Node → Type 0
AreNoted file nodes = (notes : List Note) × AreNotes file.octets notes × (nodes ≡ noted_nodes file.name notes)

-- how many octets stand behind what a file begins with, what that means, and the file
abbrev pub left_node : List ℕ → List ℕ → ℕ → Node
left_node means name left = item_node (codes "Bytes after its end") (
    tell (codes "bytes") (count left) ∷ say means ∷ tell (codes "file") (text name) ∷ [])

-- if there are some
abbrev pub left_nodes : List ℕ → List ℕ → Option ℕ → List Node
left_nodes means name None = []
left_nodes means name (Some left) = if left == 0 then [] else left_node means name left ∷ []

abbrev pub IsLeft : {V : Type 0} → (V → List ℕ → Type 0) → List ℕ → FileFields → List Node → Type 0
IsLeft encodes means file nodes =
    (left : Option ℕ) × Leaves encodes file.octets left × (nodes ≡ left_nodes means file.name left)

-- behind a certificate, and behind a CRL
abbrev pub behind_certificate : List ℕ
behind_certificate = codes ", not read: "

abbrev pub behind_list : List ℕ
behind_list = codes ", so it is not a CRL (if it has two, give each in a file of its own): "

-- the name of a file
abbrev pub name_node : List ℕ → List ℕ → Node
name_node label name = told_line label [] (text name)

-- of a file given as a CRL, its name, if it is none
abbrev pub IsNotAList : FileFields → List Node → Type 0
IsNotAList file nodes =
    (IsList file.octets × (nodes ≡ [])) ⊎ ((IsList file.octets → ⊥) × (nodes ≡ name_node (codes "Not a CRL") file.name ∷ []))

-- what is said of each of some files
abbrev pub IsAbout : About → FileFields → List Node → Type 0
IsAbout about.Notes file nodes = AreNoted file nodes
IsAbout about.BehindCertificate file nodes = IsLeft IsCertificate behind_certificate file nodes
IsAbout about.BehindList file nodes = IsLeft IsCertificateList behind_list file nodes
IsAbout about.NoList file nodes = IsNotAList file nodes

-- of a file given as a TAL, of which this was read, its name, if it is none
abbrev pub not_a_locator : List ℕ → Result NamedTal TalError → List Node
not_a_locator name (Ok tal) = []
not_a_locator name (Err error) = name_node (codes "Not a TAL") name ∷ []

abbrev pub not_locators : List LocatorFields → List Node
not_locators locators = flat_map (λ l. not_a_locator l.file.name l.read) locators

-- ---- an accepted path

-- the TAL of the trust anchor: how many URIs it has, its key's identifier, and its file
abbrev pub uris_word : ℕ → List ℕ
uris_word n = if n == 1 then codes " URI, key " else codes " URIs, key "

abbrev pub tal_line : List ℕ → ℕ → List ℕ → Node
tal_line name uris key = line (codes "TAL") (
    tell (codes "tal_uris") (count uris) ∷ say (uris_word uris) ∷ tell (codes "tal_key") (identifier_told key)
    ∷ say (codes ", ") ∷ tell (codes "tal") (text name) ∷ [])

-- of a file of which this was read
abbrev pub read_tal : List ℕ → Result NamedTal TalError → List Node
read_tal name (Ok t) = tal_line name (length t.tal.uris) (key_identifier t.tal.key) ∷ []
read_tal name (Err error) = []

abbrev pub found_tal : Option LocatorFields → List Node
found_tal None = []
found_tal (Some l) = read_tal l.file.name l.read

abbrev pub IsTal : QuestionFields → List Node → Type 0
IsTal question nodes =
    (found : Option LocatorFields) × IsAnchorLocator question found × (nodes ≡ found_tal found)

-- the resources that a CA or an EE holds, under these labels
abbrev pub holder_nodes : List ℕ → List ℕ → List ℕ → ResourceFields → List Node
holder_nodes numbers ipv4 ipv6 holder =
    set_nodes numbers_node numbers holder.as_numbers
    ++ (set_nodes (addresses_node V4) ipv4 holder.v4 ++ set_nodes (addresses_node V6) ipv6 holder.v6)

-- the resources that a router's certificate lists, and its key, of which this was found (RFC 8209
-- 3.1)
abbrev pub router_nodes : CertFields → KeyAnswer → List Node
router_nodes c key =
    each (codes "subordinate_resources") (document_of (
    listed_nodes (codes "Router AS numbers") (codes "Router IPv4") (codes "Router IPv6") c.fields.extensions))
    ∷ inside (codes "key") (document_of (key_nodes (codes "Router key") (text (key_text key)) None c.fields.key key))
    ∷ told_line (codes "Router key identifier") (codes "ski") (identifier_told c.fields.extensions.subject_key_identifier)
    ∷ []

-- what is held: by the last certificate, or, if that is a router's, what it lists and what the CA
-- above it holds
abbrev pub AreHeld : ResourceFields → Option CertFields → List Node → Type 0
AreHeld holder None nodes =
    nodes ≡ each (codes "holds") (document_of (
    holder_nodes (codes "AS resources") (codes "IPv4 resources") (codes "IPv6 resources") holder)) ∷ []
AreHeld holder (Some c) nodes =
    (key : KeyAnswer) × IsKeyAnswer c.fields.key key
    × (nodes ≡ inside (codes "router") (document_of (router_nodes c key))
    ∷ each (codes "issuer_holds") (document_of (
    holder_nodes (codes "Issuer's AS") (codes "Issuer's IPv4") (codes "Issuer's IPv6") holder)) ∷ [])

-- whether CRLs were given
abbrev pub revocation_told : List FileFields → ToldValue
revocation_told [] = words (codes "not checked, no CRL was given") (codes "not checked")
revocation_told (list ∷ lists) =
    words (codes "checked, no certificate is revoked by the CRLs given") (codes "checked")

-- what was checked beside
abbrev pub checked_nodes : QuestionFields → List Node
checked_nodes question =
    told_line (codes "Signatures") (codes "signatures")
    (words (codes "checked (RSASSA-PKCS1-v1_5 with SHA-256, RFC 7935)") (codes "checked"))
    ∷ told_line (codes "Revocation") (codes "revocation") (revocation_told question.lists)
    ∷ []

-- something that was not checked
abbrev pub unchecked : List ℕ → Node
unchecked what = line (codes "Not checked") (say what ∷ [])

-- the trust anchor, if no TAL was given
abbrev pub unchecked_anchor : List LocatorFields → List Node
unchecked_anchor [] = unchecked (codes "the trust anchor's key, no TAL was given") ∷ []
unchecked_anchor (locator ∷ locators) = []

-- names, if they needn't chain
abbrev pub unchecked_names : Bool → List Node
unchecked_names names = if names then [] else unchecked (codes "name chaining (RFC 5280 6.1.3)") ∷ []

abbrev pub unchecked_nodes : QuestionFields → List Node
unchecked_nodes question =
    unchecked_anchor question.locators
    ++ (unchecked_names question.names ++ unchecked (codes "manifests") ∷ [])

-- that the path is accepted, whose last certificate is in this file
abbrev pub accepted_head : List ℕ → Node
accepted_head name = head (codes "accepted") (keep (codes "accepted") (flag true) ∷ show (text name) ∷ [])

-- the name of the last file
abbrev pub last_name : List FileFields → List ℕ
last_name files = unwrap_or (file_name_at files (length files - 1)) []

-- what is said behind the certificates
pub record AreAcceptance (question : QuestionFields) (j : Judged) (nodes : List Node) : Type 0 where
  pub tal : List Node
  pub tal_is : IsTal question tal
  pub held : List Node
  pub held_are : AreHeld j.holder j.router held
  pub nodes_are : nodes ≡ tal ++ (held ++ (checked_nodes question ++ unchecked_nodes question))

-- ---- a rejected path

-- what a fault means, its name and the section of the standard
abbrev pub reason_spans : List ℕ → List ℕ → List ℕ → List Span
reason_spans says name section =
    say says ∷ say (codes " (") ∷ say name ∷ say (codes ", ") ∷ say section ∷ say (codes ")") ∷ []

-- the file of the certificate that is wrong, or its path index, if no file is there
abbrev pub place_spans : ℕ → Option (List ℕ) → List Span
place_spans index None = say (codes "path index ") ∷ show (count index) ∷ say (codes ": ") ∷ []
place_spans index (Some name) = show (inner name) ∷ say (codes ": ") ∷ []

-- that the path is rejected
abbrev pub rejected_head : List Span → Node
rejected_head spans = head (codes "rejected") (keep (codes "accepted") (flag false) ∷ spans)

-- the fault as a program needs it
abbrev pub fault_spans : List ℕ → List ℕ → List ℕ → List Span
fault_spans name says section =
    keep (codes "fault") (text name) ∷ keep (codes "why") (text says) ∷ keep (codes "standard") (text section) ∷ []

-- the name of the file of the certificate that is wrong
abbrev pub faulty_file : Option (List ℕ) → List Node
faulty_file None = []
faulty_file (Some name) = kept_node (codes "file") (text name) ∷ []

-- in which step, and which certificate is wrong
abbrev pub step_line : List ℕ → ℕ → Node
step_line step index = line (codes "Step") (
    tell (codes "step") (text step) ∷ say (codes " (path index ") ∷ tell (codes "index") (count index)
    ∷ say (codes ")") ∷ [])

-- the same, and why, and what is told beside
abbrev pub rejected_nodes : Fault → Option (List ℕ) → Details → List Node
rejected_nodes fault name details =
    step_line fault.step.now fault.index
    ∷ (faulty_file name
    ++ (unsaid (fault_spans fault.name.now fault.rule.says.now fault.rule.section.now) ∷ details_nodes details))

-- the first lines of a rejected path
pub record AreRejection (question : QuestionFields) (fault : Fault) (nodes : List Node) : Type 0 where
  pub details : Details
  pub details_are : AreDetails question fault details
  pub nodes_are : let name = file_name_at question.members fault.index in
      nodes ≡ rejected_head (place_spans fault.index name
      ++ reason_spans fault.rule.says.now fault.name.now fault.rule.section.now)
      ∷ inside (codes "rejected") (document_of (rejected_nodes fault name details)) ∷ []

-- those where a file given as a TAL or as a CRL is none, so that nothing is judged
abbrev pub unjudged_nodes : List ℕ → List ℕ → List ℕ → List ℕ → List Node
unjudged_nodes step says name section =
    rejected_head (reason_spans says name section)
    ∷ inside (codes "rejected") (document_of (
    told_line (codes "Step") (codes "step") (text step)
    ∷ unsaid (fault_spans name says section)
    ∷ []))
    ∷ []

-- ---- the whole

-- the verdict, and why a path is rejected
abbrev pub IsOpening : QuestionFields → Finding → List Node → Type 0
IsOpening question (NotALocator fault) nodes =
    nodes ≡ unjudged_nodes fault.step.now fault.rule.says.now fault.name.now fault.rule.section.now
IsOpening question NotAList nodes =
    nodes ≡ unjudged_nodes (codes "crls") (codes "a file given as a CRL isn't one") (codes "NotACrl")
    (codes "RFC 6487 5, own rules")
IsOpening question (Decided None) nodes = nodes ≡ rejected_head (say (codes "no certificate was given") ∷ []) ∷ []
IsOpening question (Decided (Some (Accepted j))) nodes = nodes ≡ accepted_head (last_name question.members) ∷ []
IsOpening question (Decided (Some (Rejected fault))) nodes = AreRejection question fault nodes

-- what an accepted path holds, and what was checked of it
abbrev pub IsClosing : QuestionFields → Finding → List Node → Type 0
IsClosing question (Decided (Some (Accepted j))) nodes = AreAcceptance question j nodes
IsClosing question _ nodes = nodes ≡ []

-- whether there are some
abbrev pub are_some : {X : Type 0} → List X → Bool
are_some [] = false
are_some (x ∷ xs) = true

-- what was asked, for a program: the files' names, and what is checked
abbrev pub asked_nodes : QuestionFields → List Node
asked_nodes question =
    each (codes "path") (document_of (map (λ file. kept_node [] (text file.name)) question.members))
    ∷ unsaid (
    keep (codes "tal_checked") (flag (are_some question.locators))
    ∷ keep (codes "names_checked") (flag question.names)
    ∷ keep (codes "revocation_checked") (flag (are_some question.lists))
    ∷ keep (codes "manifests_checked") (flag false) ∷ [])
    ∷ []

-- the time at which is judged
abbrev pub time_node : Moment → Node
time_node at = told_line (codes "Validation time") (codes "validation_time") (moment_told at)

-- what is said of the files: of those of the path, and of those given as TALs and as CRLs that are
-- none
pub record AreFiles (question : QuestionFields) (nodes : List Node) : Type 0 where
  pub certificates : List Node
  pub certificates_are : AreCertificates question.strict 0 question.members certificates
  pub noted : List Node
  pub noted_are : SaysOfEach AreNoted question.members noted
  pub of_members : List Node
  pub of_members_are : SaysOfEach (IsLeft IsCertificate behind_certificate) question.members of_members
  pub of_lists : List Node
  pub of_lists_are : SaysOfEach (IsLeft IsCertificateList behind_list) question.lists of_lists
  pub others : List Node
  pub others_are : SaysOfEach IsNotAList question.lists others
  pub nodes_are : nodes ≡
      each (codes "certificates") (document_of certificates)
      ∷ each (codes "notes") (document_of noted)
      ∷ each (codes "bytes_after_end") (document_of (of_members ++ of_lists))
      ∷ each (codes "not_crls") (document_of others)
      ∷ each (codes "not_tals") (document_of (not_locators question.locators))
      ∷ []

-- a verdict: what is found, the files, the time, what was asked, and what is held
pub record IsVerdict (question : QuestionFields) (finding : Finding) (nodes : List Node) : Type 0 where
  pub opening : List Node
  pub opening_is : IsOpening question finding opening
  pub files : List Node
  pub files_are : AreFiles question files
  pub closing : List Node
  pub closing_is : IsClosing question finding closing
  pub nodes_are : nodes ≡ opening ++ (files ++ (time_node question.at ∷ (asked_nodes question ++ closing)))

-- its two renderings, of the path that the files are
pub record IsTextOfPath (x : Context) (question : QuestionFields) (text : List ℕ) : Type 0 where
  pub finding : Finding
  pub finding_is : IsFinding x question finding
  pub nodes : List Node
  pub nodes_are : IsVerdict question finding nodes
  pub text_is : text ≡ document_text (document_of nodes)

pub record IsJsonOfPath (format : Format) (x : Context) (question : QuestionFields) (text : List ℕ) : Type 0 where
  pub finding : Finding
  pub finding_is : IsFinding x question finding
  pub nodes : List Node
  pub nodes_are : IsVerdict question finding nodes
  pub text_is : text ≡ json_value_text format (document_json (document_of nodes))
