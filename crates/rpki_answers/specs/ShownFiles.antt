-- What is shown of files, each as a document (own).
use Rattle.std.specs.Prelude.{◌≡◌, ◌≢◌, ◌↔◌, ◌⊎◌, ℕ, Bool, true, false, IsTrue, IsFalse, ◌==◌, if◌then◌else◌, List}
use Rattle.std.specs.Prelude.{[], ◌∷◌, ◌++◌, map, length, codes, string_bytes, Option, Some, None}
use Rattle.hex.specs.Hex.{encode_lower}
use Rattle.sha2.specs.Sha256.{sha256}
use Rattle.serde_json.specs.Data.{Data}
use Rattle.rpki_cert.specs.Certificates.{CertFields, IsCertificate}
use Rattle.rpki_crl.specs.Lists.{CrlFields, IsCertificateList, ListFields}
use Rattle.rpki_crl.specs.RevokedEntries.{Revoked}
use Rattle.rpki_der.specs.Encoding.{Means}
use Rattle.rpki_der.specs.declared.error.DecodeError.{DecodeError}
use Rattle.rpki_der.specs.declared.error.DecodeError.TheVariants.{Memory}
use Rattle.rpki_document.specs.Documents.{text, characters, words, count, say, tell, show, keep, Node, line, inside}
use Rattle.rpki_document.specs.Documents.{each, document_of, document_json, document_text, kept_node, told_line}
use Rattle.rpki_files.specs.Contents.{BeginsBefore, BeginsWithEither, LooksLikeList}
use Rattle.rpki_files.specs.FaultRules.{IsFileRule, RuleFields, rule_of, tal_rule}
use Rattle.rpki_files.specs.FileSorts.{IsToldSort}
use Rattle.rpki_files.specs.Files.{FileFields}
use Rattle.rpki_files.specs.FlawTexts.{flaw_text}
use Rattle.rpki_files.specs.LocatorFiles.{AreLocator, IsWhyNoLocator, looks_like_locator}
use Rattle.rpki_files.specs.Misreads.{StopsFor}
use Rattle.rpki_files.specs.SortTexts.{sort_rule}
use Rattle.rpki_files.specs.ToBeSigned.{BeginsWithAny, IsUnsignedFile}
use Rattle.rpki_files.specs.declared.flaws.Flaw.{Flaw}
use Rattle.rpki_files.specs.declared.places.Place.{Place}
use Rattle.rpki_files.specs.declared.rules.Rule.{Rule}
use Rattle.rpki_files.specs.declared.sorts.Sort.{Sort}
use Rattle.rpki_files.specs.declared.sorts.Sort.TheVariants.{Request, Version1}
use Rattle.rpki_keys.specs.Digits.{base64_of}
use Rattle.rpki_keys.specs.Locators.{IsLocator, TalFields}
use Rattle.rpki_keys.specs.TalErrors.{tal_error_name}
use Rattle.rpki_keys.specs.declared.tal.tal_error.TalError.{TalError}
use Rattle.rpki_parts.specs.Keys.{KeyFields, key_identifier}
use Rattle.rpki_text.specs.KeyTexts.{IsLocatorKey, locator_key_text}
use Rattle.rpki_document.specs.Texts.{line_feed}
use Rattle.rpki_text.specs.declared.command_line.arguments.Format.{Format}
use Rattle.rpki_text.specs.declared.keys.KeyAnswer.{KeyAnswer}
use Rattle.rpki_answers.specs.JsonTexts.{values_text}
use Rattle.rpki_answers.specs.RejectionDetails.{sort_nodes}
use Rattle.rpki_answers.specs.ShownCertificates.{IsShownCertificate}
use Rattle.rpki_answers.specs.ShownLists.{list_nodes}
use Rattle.rpki_answers.specs.ToldValues.{identifier_told, key_nodes, signature_line, unsigned_line}
use Rattle.rpki_answers.specs.VerdictTexts.{SaysOfEach}
use Rattle.rpki_answers.specs.declared.showing.Options.{Options}
use Rattle.rpki_answers.specs.declared.showing.subjects.Rejection.{Rejection}
use Rattle.rpki_answers.specs.declared.showing.subjects.Subject.{Subject}
use Rattle.rpki_answers.specs.declared.showing.subjects.Subject.TheVariants as subject

-- ---- what a file is

-- what is said of a file of this sort: the rule of the sort; of one of no sort that of its fault
abbrev pub IsToldRule : Option Sort → Bool → DecodeError → List ℕ → RuleFields → Type 0
IsToldRule (Some s) is_list fault octets r = r ≡ sort_rule s
IsToldRule None is_list fault octets r = IsFileRule is_list fault octets r

-- the sorts whose octets look like a CRL's, and which are told as a certificate: a certificate of
-- version 1, whose version is absent (RFC 5280 4.1, 5.1), and a certification request, whose version
-- is an INTEGER (RFC 2986 4.1)
abbrev pub IsToldAsCertificate : Option Sort → Type 0
IsToldAsCertificate sort = (sort ≡ Some Version1) ⊎ (sort ≡ Some Request)

-- octets that begin with neither are told as a CRL if they look like one and are of no such sort
abbrev pub IsToldAsList : Option Sort → List ℕ → Type 0
IsToldAsList sort octets = LooksLikeList octets × (IsToldAsCertificate sort → ⊥)

-- why octets begin with neither a certificate nor a CRL: their sort, a fault of reading, what is said,
-- and where reading stops, of which it is true what the fault names; how a fault is named, no
-- definition says
pub record IsRejection (octets : List ℕ) (r : Rejection) : Type 0 where
  pub sort_is : IsToldSort octets r.sort
  pub fault : DecodeError
  pub not_memory : fault ≢ Memory
  pub is_list : Bool
  pub is_list_by : IsTrue is_list ↔ IsToldAsList r.sort octets
  pub rule_is : IsToldRule r.sort is_list fault octets (rule_of r.rule)
  pub place_is : StopsFor is_list octets fault r.place

-- the octets are this: a certificate or a CRL, behind which so many octets stand; the to-be-signed part
-- of one; a TAL; or none of them, why they are no TAL if they look like one, or else why they aren't
-- read
abbrev pub IsSubject : Bool → List ℕ → Subject → Type 0
IsSubject strict octets (subject.Certificate cert left) = BeginsBefore IsCertificate octets cert.now left
IsSubject strict octets (subject.List list left) = BeginsBefore IsCertificateList octets list.now.list left
IsSubject strict octets (subject.ToBeSigned whole) =
    (BeginsWithEither octets → ⊥) × IsUnsignedFile octets whole.octets
IsSubject strict octets (subject.Locator tal) =
    (BeginsWithAny octets → ⊥) × IsLocator strict tal.tal octets
IsSubject strict octets (subject.NotALocator error) =
    ((BeginsWithAny octets → ⊥) × IsTrue (looks_like_locator octets)) × IsWhyNoLocator strict octets error
IsSubject strict octets (subject.Unread rejection) =
    ((BeginsWithAny octets → ⊥) × (AreLocator strict octets → ⊥))
    × (IsFalse (looks_like_locator octets) × IsRejection octets rejection)

-- whether `rpki show` shows it
abbrev pub can_be_shown : Subject → Bool
can_be_shown (subject.NotALocator error) = false
can_be_shown (subject.Unread rejection) = false
can_be_shown _ = true

-- whether it is the to-be-signed part of a certificate or a CRL
abbrev pub is_to_be_signed : Subject → Bool
is_to_be_signed (subject.ToBeSigned whole) = true
is_to_be_signed _ = false

-- ---- its document

-- the SHA-256 hash of octets (FIPS 180-4), in hexadecimal and in base64
abbrev pub hash_line : List ℕ → Node
hash_line octets = line (codes "SHA-256") (
    show (text (encode_lower (sha256 octets))) ∷ keep (codes "hash_id") (text (base64_of (sha256 octets))) ∷ [])

-- the name of a file
abbrev pub name_line : FileFields → Node
name_line file = told_line (codes "File") (codes "file") (text file.name)

-- of a to-be-signed part that it isn't signed, and its name; of another file its name, and the hash of
-- its octets
abbrev pub file_nodes : FileFields → Bool → List Node
file_nodes file to_be_signed =
    if to_be_signed then unsigned_line ∷ name_line file ∷ [] else name_line file ∷ hash_line file.octets ∷ []

-- how many octets stand behind an object
abbrev pub left_line : ℕ → Node
left_line left = line (codes "Bytes after its end") (
    tell (codes "bytes_after_end") (count left) ∷ say (codes ", not read") ∷ [])

-- if some do
abbrev pub behind_nodes : ℕ → List Node
behind_nodes left = if left == 0 then [] else left_line left ∷ []

-- the key of a TAL, of which this was found, and its identifier
abbrev pub tal_key_nodes : KeyFields → KeyAnswer → List Node
tal_key_nodes key found =
    inside (codes "key") (document_of (key_nodes (codes "Key") (text (locator_key_text found)) None key found))
    ∷ told_line (codes "Subject key identifier") (codes "ski") (identifier_told (key_identifier key))
    ∷ []

abbrev pub uri_line : List ℕ → Node
uri_line uri = told_line (codes "URI") [] (characters uri)

-- a TAL in a file of this name (RFC 8630 2.2)
abbrev pub tal_nodes : List ℕ → TalFields → KeyAnswer → List Node
tal_nodes name tal found =
    told_line (codes "Kind") (codes "type") (words (codes "TAL") (codes "tal"))
    ∷ kept_node (codes "name") (text name)
    ∷ each (codes "trust_anchor_locations") (document_of (map uri_line tal.uris))
    ∷ tal_key_nodes tal.key found

-- what a fault means, and the section of the standard
abbrev pub rule_nodes : Rule → List Node
rule_nodes rule =
    told_line (codes "Why") (codes "why") (text rule.says.now)
    ∷ told_line (codes "Standard") (codes "standard") (text rule.section.now)
    ∷ []

-- a file that looks like a TAL and is none
abbrev pub no_tal_nodes : TalError → Rule → List Node
no_tal_nodes error rule =
    told_line (codes "Kind") (codes "kind") (text (codes "looks like a TAL"))
    ∷ told_line (codes "Error") (codes "fault") (text (tal_error_name error))
    ∷ rule_nodes rule

-- what is found where reading stops, if a flaw is told
abbrev pub found_nodes : Option Flaw → List Node
found_nodes None = []
found_nodes (Some flaw) = told_line (codes "Found") (codes "found") (text (flaw_text flaw)) ∷ []

-- where reading stops: in this field, which begins at this octet
abbrev pub where_line : List ℕ → ℕ → Node
where_line field octet = line (codes "Where") (
    tell (codes "field") (text field) ∷ say (codes ", at byte ") ∷ tell (codes "byte") (count octet) ∷ [])

-- the same, what is expected there, and what is found
abbrev pub place_nodes : Place → List Node
place_nodes place =
    where_line place.field.now place.octet
    ∷ told_line (codes "Expected") (codes "expected") (text place.wanted.now)
    ∷ found_nodes place.found

-- whether this is shown of a file of this sort: where its sort is told, only if all is asked
abbrev pub shows_stop : Bool → Option Sort → Bool
shows_stop all None = true
shows_stop all (Some sort) = all

-- the fault, and where reading stops
abbrev pub fault_nodes : Rejection → List Node
fault_nodes r = told_line (codes "Error") (codes "fault") (text (string_bytes r.why)) ∷ place_nodes r.place

abbrev pub stop_nodes : Bool → Rejection → List Node
stop_nodes shows r = if shows then fault_nodes r else []

-- a file that is none of these
abbrev pub unread_nodes : Bool → Rejection → List Node
unread_nodes all r = sort_nodes r.sort ++ (stop_nodes (shows_stop all r.sort) r ++ rule_nodes r.rule)

-- the certificate that octets begin with, behind which so many octets stand
abbrev pub IsShownBefore : Options → List ℕ → CertFields → ℕ → List Node → Type 0
IsShownBefore options octets c left nodes =
    (its : List Node) × IsShownCertificate options octets c its × (nodes ≡ its ++ signature_line ∷ behind_nodes left)

-- a CRL behind which so many octets stand
abbrev pub whole_list_nodes : Options → ListFields Revoked → ℕ → List Node
whole_list_nodes options list left = list_nodes list options.at options.all ++ signature_line ∷ behind_nodes left

-- the certificate or the CRL that octets begin with, but for its signature
abbrev pub IsShownUnsigned : Options → List ℕ → List Node → Type 0
IsShownUnsigned options octets nodes =
    ((c : CertFields) × Means IsCertificate c octets × IsShownCertificate options octets c nodes)
    ⊎ ((l : CrlFields) × Means IsCertificateList l octets × (nodes ≡ list_nodes l.fields options.at options.all))

-- what is said of a file that is this
abbrev pub IsSaidOfFile : Options → FileFields → Subject → List Node → Type 0
IsSaidOfFile options file (subject.Certificate cert left) nodes = IsShownBefore options file.octets cert.now left nodes
IsSaidOfFile options file (subject.List list left) nodes = nodes ≡ whole_list_nodes options list.now.list.fields left
IsSaidOfFile options file (subject.ToBeSigned whole) nodes = IsShownUnsigned options whole.octets nodes
IsSaidOfFile options file (subject.Locator tal) nodes =
    (key : KeyAnswer) × IsLocatorKey tal.tal.key key × (nodes ≡ tal_nodes file.name tal.tal key)
IsSaidOfFile options file (subject.NotALocator error) nodes =
    (rule : Rule) × (rule_of rule ≡ tal_rule error) × (nodes ≡ no_tal_nodes error rule)
IsSaidOfFile options file (subject.Unread rejection) nodes = nodes ≡ unread_nodes options.all rejection

-- the document of a file
pub record IsFileDocument (options : Options) (file : FileFields) (nodes : List Node) : Type 0 where
  pub what : Subject
  pub what_is : IsSubject options.strict file.octets what
  pub said : List Node
  pub said_is : IsSaidOfFile options file what said
  pub nodes_are : nodes ≡ file_nodes file (is_to_be_signed what) ++ said

-- ---- its two renderings

-- new is old with something behind it of which this holds
abbrev pub Grows : {X : Type 0} → (List X → Type 0) → List X → List X → Type 0
Grows {X} Hold old new = (more : List X) × Hold more × (new ≡ old ++ more)

-- the text of a file
abbrev pub IsFileText : Options → FileFields → List ℕ → Type 0
IsFileText options file written =
    (nodes : List Node) × IsFileDocument options file nodes × (written ≡ document_text (document_of nodes))

-- the text of a file behind another one: an empty line, and its own
abbrev pub IsFurtherText : Options → FileFields → List ℕ → Type 0
IsFurtherText options file written = (its : List ℕ) × IsFileText options file its × (written ≡ line_feed ++ its)

-- the text of files
abbrev pub IsTextOfFiles : Options → List FileFields → List ℕ → Type 0
IsTextOfFiles options [] written = written ≡ []
IsTextOfFiles options (file ∷ files) written =
    (first : List ℕ) × (more : List ℕ) × IsFileText options file first
    × SaysOfEach (IsFurtherText options) files more × (written ≡ first ++ more)

-- in JSON all is shown
abbrev pub with_all : Options → Options
with_all options = record { at = options.at; strict = options.strict; all = true }

-- the value of a file, and that alone
abbrev pub IsFileValue : Options → FileFields → Data → Type 0
IsFileValue options file value =
    (nodes : List Node) × IsFileDocument (with_all options) file nodes × (value ≡ document_json (document_of nodes))

abbrev pub IsFileItem : Options → FileFields → List Data → Type 0
IsFileItem options file items = (value : Data) × IsFileValue options file value × (items ≡ value ∷ [])

-- just one file is named
abbrev pub is_single : List (List ℕ) → Bool
is_single names = length names == 1

-- the JSON of files in a format, where one is named or others are
abbrev pub IsJsonOfFiles : Format → Bool → Options → List FileFields → List ℕ → Type 0
IsJsonOfFiles format single options files written =
    (values : List Data) × SaysOfEach (IsFileItem options) files values × (written ≡ values_text format single values)
