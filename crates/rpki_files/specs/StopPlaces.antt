-- Where the reading of a file stops: at which part of a certificate or of a list, and at which
-- octet of the file. What stands before that octet was read as the parts before; from there on no
-- value of the part begins, or the one that begins may not stand there (RFC 5280 4.1, 5.1, RFC 6487
-- 4, 5).
use Rattle.std.specs.Prelude.{◌≡◌, ◌≢◌, ◌≤◌, ◌<◌, ◌⊎◌, ℕ, Bool, true, false, List, [], ◌∷◌, ◌++◌, Contains, drop}
use Rattle.std.specs.Prelude.{length, map, slice_range, Result, Ok, Err}
use Rattle.rpki_parts.specs.Algorithms.{Algorithm, algorithm_format}
use Rattle.rpki_der.specs.BasicFormats.{serial_format, time_format}
use Rattle.rpki_ext.specs.CertificateExtensions.{ExtensionFields}
use Rattle.rpki_ext.specs.CertificateExtensions as certificate
use Rattle.rpki_cert.specs.Certificates.{version_format}
use Rattle.rpki_der.specs.declared.error.DecodeError.{DecodeError}
use Rattle.rpki_der.specs.Encoding.{Begins, BeginsOther, Means}
use Rattle.rpki_der.specs.Extensions.{Extension, IsExtension, extension_format}
use Rattle.rpki_der.specs.Formats.{Format, then}
use Rattle.rpki_parts.specs.Keys.{public_key_format}
use Rattle.rpki_crl.specs.ListExtensions.{ListExtensions}
use Rattle.rpki_crl.specs.ListExtensions as list
use Rattle.rpki_crl.specs.Lists.{version_2}
use Rattle.rpki_parts.specs.Names.{name_format}
use Rattle.rpki_der.specs.Place.{Place, EndsAt, IsWithin, MovesOn, Rejects, remaining}
use Rattle.rpki_crl.specs.RevokedEntries.{Entry, AreEntries, entry_format, revoked_format}
use Rattle.rpki_der.specs.Sequences.{AreEncodings}
use Rattle.rpki_der.specs.Skipping.{levels}
use Rattle.rpki_der.specs.Tags.{CONTEXT_CONSTRUCTED, SEQUENCE}
use Rattle.rpki_parts.specs.Validities.{validity_format}
use Rattle.rpki_der.specs.Values.{IsEnc}
use Rattle.rpki_files.specs.Flaws.{IsFirstFlaw}
use Rattle.rpki_files.specs.KnownKinds.{HasContent, MayHaveFlag, known_kind}
use Rattle.rpki_files.specs.PartTexts.{part_description}
use Rattle.rpki_files.specs.declared.expected.Field.{Field}
use Rattle.rpki_files.specs.declared.expected.Field.TheVariants as field
use Rattle.rpki_files.specs.declared.expected.Part.{Part}
use Rattle.rpki_files.specs.declared.expected.Part.TheVariants as part
use Rattle.rpki_files.specs.declared.kinds.Kind.{Kind}
use Rattle.rpki_files.specs.declared.kinds.Kind.TheVariants.{AuthorityKeyIdentifier, CrlNumber, Unknown}
use Rattle.rpki_files.specs.declared.places.Place.{Place as ToldPlace}
use Rattle.rpki_files.specs.declared.places.Stop.{Stop}
use Rattle.rpki_files.specs.declared.places.Stop.TheVariants.{At, Memory}

-- ---- what stands at a place of a file

-- all octets of a file
abbrev pub whole_place : List ℕ → Place
whole_place octets = record { source = octets; from = 0; to = length octets }

-- a text that encodes a value of the format
abbrev pub EncodesSome : {V : Type 0} → Format V → List ℕ → Type 0
EncodesSome {V} f text = (v : V) × f.encodes v text

-- a value with this identifier octet, whatever its content
abbrev pub HasTag : ℕ → List ℕ → Type 0
HasTag tag text = (content : List ℕ) × IsEnc tag content text

-- what stands from one place to the next one has this form
pub record Passes (Is : List ℕ → Type 0) (at next : Place) : Type 0 where
  pub text : Is (slice_range at.source at.from next.from)
  pub moves : MovesOn at next
  pub order : next.from ≤ next.to
  pub within : next.to ≤ length next.source

-- a value with this identifier octet stands at a place, whose content is the inner place
pub record Opens (tag : ℕ) (at inner next : Place) : Type 0 where
  pub value : Passes (IsEnc tag (remaining inner)) at next
  pub inside : IsWithin inner at
  pub ends : EndsAt inner next
  pub order : inner.from ≤ inner.to

-- no text of this form stands at the front of the octets
abbrev pub BeginsWithNo : (List ℕ → Type 0) → List ℕ → Type 0
BeginsWithNo Is octets = (text rest : List ℕ) → Is text → octets ≡ text ++ rest → ⊥

-- reading stops at a place because no text of this form, which this part has, stands there
pub record StopsBefore (Is : List ℕ → Type 0) (wanted : Part) (at : Place) (stop : Part) (octet : ℕ) : Type 0 where
  pub stop_is : stop ≡ wanted
  pub octet_is : octet ≡ at.from
  pub none : BeginsWithNo Is (remaining at)

-- reading stops at a place because octets are left of the value in which it stands
pub record StopsBehind (at : Place) (stop : Part) (octet : ℕ) : Type 0 where
  pub stop_is : stop ≡ part.Behind
  pub octet_is : octet ≡ at.from
  pub left : at.from < at.to

-- ---- fields

-- the text of a field
abbrev pub IsField : Field → List ℕ → Type 0
IsField field.Version text = EncodesSome version_format text
IsField field.ListVersion text = EncodesSome version_2 text
IsField field.Serial text = EncodesSome serial_format text
IsField field.Algorithm text = EncodesSome algorithm_format text
IsField field.Issuer text = EncodesSome (name_format levels) text
IsField field.Validity text = EncodesSome validity_format text
IsField field.Subject text = EncodesSome (name_format levels) text
IsField field.Key text = EncodesSome public_key_format text
IsField field.ThisUpdate text = EncodesSome time_format text
IsField field.NextUpdate text = EncodesSome time_format text
IsField field.SignatureAlgorithm text = EncodesSome algorithm_format text

-- these fields, one after the other
abbrev pub AreFields : List Field → List ℕ → Type 0
AreFields [] text = text ≡ []
AreFields (f ∷ fields) text = (a : List ℕ) × (b : List ℕ) × IsField f a × AreFields fields b × (text ≡ a ++ b)

-- TBSCertificate before its extensions (RFC 5280 4.1)
abbrev pub certificate_fields : List Field
certificate_fields =
    field.Version ∷ field.Serial ∷ field.Algorithm ∷ field.Issuer ∷ field.Validity ∷ field.Subject ∷ field.Key ∷ []

-- TBSCertList before its revoked certificates (RFC 5280 5.1)
abbrev pub list_fields : List Field
list_fields = field.ListVersion ∷ field.Algorithm ∷ field.Issuer ∷ field.ThisUpdate ∷ field.NextUpdate ∷ []

-- reading stops at one of these fields: those before it were read
pub record StopsAmong (fields : List Field) (at : Place) (stop : Part) (octet : ℕ) : Type 0 where
  pub before : List Field
  pub here : Field
  pub behind : List Field
  pub next : Place
  pub are : fields ≡ before ++ here ∷ behind
  pub read : Passes (AreFields before) at next
  pub stops : StopsBefore (IsField here) (part.Field here) next stop octet

-- ---- revoked certificates

-- reading stops at one of the entries inside their SEQUENCE: those before it were read
pub record StopsInEntries (at : Place) (stop : Part) (octet : ℕ) : Type 0 where
  pub entries : List Entry
  pub next : Place
  pub read : Passes (AreEntries entries) at next
  pub left : next.from < next.to
  pub stops : StopsBefore (EncodesSome entry_format) part.Entry next stop octet

-- revokedCertificates was read: entries in their SEQUENCE, or nothing where no SEQUENCE begins
pub record ReadsEntries (at next : Place) : Type 0 where
  pub passes : Passes (EncodesSome revoked_format) at next
  pub absent : next.from ≡ at.from → BeginsOther SEQUENCE (remaining at)

-- where revokedCertificates SEQUENCE OF .. OPTIONAL may stand (RFC 5280 5.1): a SEQUENCE begins
-- that is none, or reading stops inside it
abbrev pub StopsAtEntries : Place → Part → ℕ → Type 0
StopsAtEntries at stop octet =
    ((BeginsOther SEQUENCE (remaining at) → ⊥) × StopsBefore (HasTag SEQUENCE) part.Entries at stop octet)
    ⊎ ((inner : Place) × (next : Place) × Opens SEQUENCE at inner next × StopsInEntries inner stop octet)

-- ---- the fields before the extensions

-- they were read
abbrev pub ReadsToExtensions : Bool → Place → Place → Type 0
ReadsToExtensions false at next = Passes (AreFields certificate_fields) at next
ReadsToExtensions true at next =
    (entries : Place) × Passes (AreFields list_fields) at entries × ReadsEntries entries next

-- reading stops at one of them
abbrev pub StopsBeforeExtensions : Bool → Place → Part → ℕ → Type 0
StopsBeforeExtensions false at stop octet = StopsAmong certificate_fields at stop octet
StopsBeforeExtensions true at stop octet =
    StopsAmong list_fields at stop octet
    ⊎ ((entries : Place) × Passes (AreFields list_fields) at entries × StopsAtEntries entries stop octet)

-- ---- single extensions

-- the kind of an extension
abbrev pub extension_kind : Bool → Extension → Kind
extension_kind is_list x = known_kind is_list x.identifier

-- one of a known kind that is among these (RFC 5280 4.2); of those that certificates don't know
-- there may be several (own)
abbrev pub IsSecond : List Kind → Kind → Type 0
IsSecond kinds kind = (kind ≢ Unknown) × Contains kinds kind

-- an extension of this kind may stand behind those of these kinds, with its flag and its content
pub record MayStandAs (is_list : Bool) (kinds : List Kind) (kind : Kind) (critical : Bool) (content : List ℕ) : Type 0 where
  pub flag : MayHaveFlag is_list kind critical
  pub has_content : HasContent kind content
  pub first : IsSecond kinds kind → ⊥

-- it may
abbrev pub MayStand : Bool → List Kind → Extension → Type 0
MayStand is_list kinds x = MayStandAs is_list kinds (extension_kind is_list x) x.critical x.content

-- each of them may stand behind these kinds and those before it
abbrev pub MayStandBehind : Bool → List Kind → List Extension → Type 0
MayStandBehind is_list kinds [] = Unit {0}
MayStandBehind is_list kinds (x ∷ xs) =
    MayStand is_list kinds x × MayStandBehind is_list (kinds ++ extension_kind is_list x ∷ []) xs

-- the octets are these extensions, each of which may stand behind those before it
abbrev pub AreWellPlaced : Bool → List Extension → List ℕ → Type 0
AreWellPlaced is_list xs text = AreEncodings IsExtension xs text × MayStandBehind is_list [] xs

-- the part that is told of an extension of this kind that may not stand behind those of these
-- kinds: a second one of its kind, or else one with another flag or another content
abbrev pub IsMisplaced : Bool → List Kind → Kind → Bool → List ℕ → Part → Type 0
IsMisplaced is_list kinds kind critical content stop =
    ((stop ≡ part.Second kind) × IsSecond kinds kind)
    ⊎ ((stop ≡ part.Kind kind) × (IsSecond kinds kind → ⊥)
    × (MayHaveFlag is_list kind critical × HasContent kind content → ⊥))

-- reading stops at what stands next, behind extensions of these kinds: it is none, or one that may
-- not stand there
abbrev pub StopsAtExtension : Bool → List Kind → Place → Part → ℕ → Type 0
StopsAtExtension is_list kinds at stop octet =
    StopsBefore (EncodesSome extension_format) part.Extension at stop octet
    ⊎ ((x : Extension) × (rest : List ℕ) × Begins IsExtension (remaining at) x rest × (octet ≡ at.from)
    × IsMisplaced is_list kinds (extension_kind is_list x) x.critical x.content stop)

-- reading stops at one of the extensions: those before it were read
pub record StopsInExtensions (is_list : Bool) (at : Place) (stop : Part) (octet : ℕ) : Type 0 where
  pub extensions : List Extension
  pub next : Place
  pub read : Passes (AreWellPlaced is_list extensions) at next
  pub left : next.from < next.to
  pub stops : StopsAtExtension is_list (map (extension_kind is_list) extensions) next stop octet

-- ---- the extensions together

-- the octets are extensions that give all that must be there
abbrev pub AreComplete : Bool → List ℕ → Type 0
AreComplete false elements = (f : ExtensionFields) × certificate.AreExtensions f elements
AreComplete true elements = (f : ListExtensions) × list.AreExtensions f elements

-- each of them may stand there, and together they don't give all that must be there
abbrev pub AreIncomplete : Bool → List ℕ → Type 0
AreIncomplete is_list elements =
    (xs : List Extension) × AreWellPlaced is_list xs elements × (AreComplete is_list elements → ⊥)

-- the tag of the extensions, [3], or of a list's [0] (RFC 5280 4.1, 5.1)
abbrev pub extensions_tag : Bool → ℕ
extensions_tag false = CONTEXT_CONSTRUCTED 3
extensions_tag true = CONTEXT_CONSTRUCTED 0

-- reading stops at the extensions in their SEQUENCE: at one of them, or, where they don't give all
-- that must be there, at the octet at which their field begins
abbrev pub StopsAmongElements : Bool → ℕ → Place → Part → ℕ → Type 0
StopsAmongElements is_list field_octet elements stop octet =
    StopsInExtensions is_list elements stop octet
    ⊎ (AreIncomplete is_list (remaining elements) × (stop ≡ part.Extensions) × (octet ≡ field_octet))

-- reading stops at the field of the extensions: its tag or its SEQUENCE isn't there, or inside
abbrev pub StopsAtExtensions : Bool → Place → Part → ℕ → Type 0
StopsAtExtensions is_list at stop octet =
    StopsBefore (HasTag (extensions_tag is_list)) part.Extensions at stop octet
    ⊎ ((tagged : Place) × (next : Place) × Opens (extensions_tag is_list) at tagged next
    × (StopsBefore (HasTag SEQUENCE) part.Extensions tagged stop octet
    ⊎ ((elements : Place) × (behind : Place) × Opens SEQUENCE tagged elements behind
    × (StopsAmongElements is_list at.from elements stop octet
    ⊎ (AreComplete is_list (remaining elements) × StopsBehind behind stop octet)))))

-- the field of the extensions was read
pub record ReadsExtensions (is_list : Bool) (at next : Place) : Type 0 where
  pub tagged : Place
  pub elements : Place
  pub behind : Place
  pub opens : Opens (extensions_tag is_list) at tagged next
  pub inside : Opens SEQUENCE tagged elements behind
  pub ends : behind.from ≡ behind.to
  pub complete : AreComplete is_list (remaining elements)

-- ---- the whole

-- reading stops in what is signed
abbrev pub StopsInSigned : Bool → Place → Part → ℕ → Type 0
StopsInSigned is_list at stop octet =
    StopsBeforeExtensions is_list at stop octet
    ⊎ ((extensions : Place) × ReadsToExtensions is_list at extensions
    × (StopsAtExtensions is_list extensions stop octet
    ⊎ ((behind : Place) × ReadsExtensions is_list extensions behind × StopsBehind behind stop octet)))

-- what is signed was read, to its end
pub record ReadsSigned (is_list : Bool) (at : Place) : Type 0 where
  pub extensions : Place
  pub behind : Place
  pub fields : ReadsToExtensions is_list at extensions
  pub extensions_are : ReadsExtensions is_list extensions behind
  pub ends : behind.from ≡ behind.to

-- this algorithm stands inside what is signed of a list, behind its version (RFC 5280 5.1)
abbrev pub HasAlgorithm : Algorithm → List ℕ → Type 0
HasAlgorithm a signed = Means (then version_2 algorithm_format).encodes (tt, a) signed

-- another algorithm than this one stands here
abbrev pub HasOther : Algorithm → List ℕ → Type 0
HasOther a octets = (b : Algorithm) × Means algorithm_format.encodes b octets × (a ≢ b)

-- the algorithm inside a list isn't the one that stands here, beside its signature (RFC 5280
-- 5.1.1.2)
abbrev pub AlgorithmsDiffer : Bool → Place → Place → Type 0
AlgorithmsDiffer false signed at = ⊥
AlgorithmsDiffer true signed at = (a : Algorithm) × HasAlgorithm a (remaining signed) × HasOther a (remaining at)

-- reading stops at the algorithm beside the signature: it isn't there, or is another one than
-- inside
abbrev pub StopsAtAlgorithm : Bool → Place → Place → Part → ℕ → Type 0
StopsAtAlgorithm is_list signed at stop octet =
    StopsBefore (IsField field.SignatureAlgorithm) (part.Field field.SignatureAlgorithm) at stop octet
    ⊎ (AlgorithmsDiffer is_list signed at × (stop ≡ part.OtherAlgorithm) × (octet ≡ at.from))

-- it was read
pub record ReadsAlgorithm (is_list : Bool) (signed at next : Place) : Type 0 where
  pub passes : Passes (IsField field.SignatureAlgorithm) at next
  pub same : AlgorithmsDiffer is_list signed at → ⊥

-- Reading stops behind what is signed: at the algorithm, or behind it at the signature, which is
-- told where all before it was read
abbrev pub StopsBehindSigned : Bool → Place → Place → Part → ℕ → Type 0
StopsBehindSigned is_list signed at stop octet =
    StopsAtAlgorithm is_list signed at stop octet
    ⊎ ((next : Place) × ReadsAlgorithm is_list signed at next × (stop ≡ part.Signature)
    × (octet ≡ next.from))

-- reading stops in the outer SEQUENCE
abbrev pub StopsInside : Bool → Place → Part → ℕ → Type 0
StopsInside is_list outer stop octet =
    StopsBefore (HasTag SEQUENCE) part.Signed outer stop octet
    ⊎ ((signed : Place) × (next : Place) × Opens SEQUENCE outer signed next
    × (StopsInSigned is_list signed stop octet
    ⊎ (ReadsSigned is_list signed × StopsBehindSigned is_list signed next stop octet)))

-- the reading of octets as a certificate, or as a list, stops at this part and this octet
abbrev pub StopsAt : Bool → List ℕ → Part → ℕ → Type 0
StopsAt is_list octets stop octet =
    StopsBefore (HasTag SEQUENCE) part.Outer (whole_place octets) stop octet
    ⊎ ((outer : Place) × (next : Place) × Opens SEQUENCE (whole_place octets) outer next
    × StopsInside is_list outer stop octet)

-- what is told of it
pub record IsStopPlace (is_list : Bool) (octets : List ℕ) (place : ToldPlace) : Type 0 where
  pub part_is : Part
  pub stops : StopsAt is_list octets part_is place.octet
  pub field_is : place.field.now ≡ (part_description part_is).name
  pub wanted_is : place.wanted.now ≡ (part_description part_is).wanted
  pub found_is : IsFirstFlaw is_list part_is (drop place.octet octets) place.found

-- what is told of a stop at this part
abbrev pub IsStopOf : Bool → List ℕ → Part → ToldPlace → Type 0
IsStopOf is_list octets p place = (is : IsStopPlace is_list octets place) × (is.part_is ≡ p)

-- ---- between functions

-- a walk ended because reading stops so, unless memory ran out
abbrev pub IsStop : (Part → ℕ → Type 0) → Stop → Type 0
IsStop Stops (At stop octet) = Stops stop octet
IsStop Stops Memory = Unit {0}

-- an extension of this kind may stand behind those of these kinds
abbrev pub IsNextKind : Bool → List Kind → Extension → Kind → Type 0
IsNextKind is_list kinds x kind = MayStand is_list kinds x × (kind ≡ extension_kind is_list x)

-- the octets are extensions of these kinds, each of which may stand behind those before it
abbrev pub AreOfKinds : Bool → List Kind → List ℕ → Type 0
AreOfKinds is_list kinds elements =
    (xs : List Extension) × AreWellPlaced is_list xs elements × (kinds ≡ map (extension_kind is_list) xs)

-- both kinds of a list's extensions are there (RFC 6487 5)
abbrev pub HasBoth : List Kind → Type 0
HasBoth kinds = Contains kinds AuthorityKeyIdentifier × Contains kinds CrlNumber

-- a reader answered whether a text of this form stands next: the cursor then stands behind it
abbrev pub AnswersWhether : (List ℕ → Type 0) → Place → Result (Unit {0}) DecodeError → Place → Type 0
AnswersWhether Is old (Ok u) new =
    (text : List ℕ) × Is text × (remaining old ≡ text ++ remaining new) × MovesOn old new
AnswersWhether Is old (Err e) new = Rejects e (BeginsWithNo Is (remaining old))
