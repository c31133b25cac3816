-- What is found where reading stops: the first flaw of the octets of the file from there on (X.690
-- 8.1, 8.3, 10.1, 11.7, 11.8; RFC 5280 4.1, 4.2).
use Rattle.std.specs.Int.Digits.{number_from_digits}
use Rattle.std.specs.Prelude.{◌≡◌, ◌≢◌, ◌≤◌, ◌<◌, ◌⊎◌, ◌^◌, ℕ, Bool, true, false, List, [], ◌∷◌, ◌++◌, Contains, map, Option, Some, None}
use Rattle.rpki_der.specs.Encoding.{Begins, Means}
use Rattle.rpki_der.specs.Extensions.{Extension, IsExtension}
use Rattle.rpki_der.specs.Primitives.{IsInteger}
use Rattle.rpki_der.specs.Tags.{BIT_STRING, CONTEXT_CONSTRUCTED, GENERALIZED_TIME, INTEGER, SEQUENCE, UTC_TIME}
use Rattle.rpki_der.specs.Times.{Moment, moment, IsGeneralizedTime, IsTime, IsUtcTime, days_in_month}
use Rattle.rpki_der.specs.Values.{IsEnc}
use Rattle.rpki_files.specs.KnownKinds.{HasContent, MayHaveFlag, known_kind}
use Rattle.rpki_files.specs.declared.digits.TimeNumbers.{TimeNumbers}
use Rattle.rpki_files.specs.declared.expected.Field.{Field}
use Rattle.rpki_files.specs.declared.expected.Field.TheVariants as field
use Rattle.rpki_files.specs.declared.expected.Part.{Part}
use Rattle.rpki_files.specs.declared.expected.Part.TheVariants as part
use Rattle.rpki_files.specs.declared.flaws.ExtensionFlaw.{ExtensionFlaw}
use Rattle.rpki_files.specs.declared.flaws.ExtensionFlaw.TheVariants.{Critical, NotCritical, OtherContent, Second}
use Rattle.rpki_files.specs.declared.flaws.Flaw.{Flaw}
use Rattle.rpki_files.specs.declared.flaws.Flaw.TheVariants as flaw
use Rattle.rpki_files.specs.declared.flaws.SerialFlaw.{SerialFlaw}
use Rattle.rpki_files.specs.declared.flaws.SerialFlaw.TheVariants.{Empty, Negative, Padded, Large}
use Rattle.rpki_files.specs.declared.flaws.TimeFlaw.{TimeFlaw}
use Rattle.rpki_files.specs.declared.flaws.TimeFlaw.TheVariants as time
use Rattle.rpki_files.specs.declared.flaws.VersionFlaw.{VersionFlaw}
use Rattle.rpki_files.specs.declared.flaws.VersionFlaw.TheVariants as version
use Rattle.rpki_files.specs.declared.kinds.Kind.{Kind}
use Rattle.rpki_files.specs.declared.kinds.Kind.TheVariants.{NoList}

-- ---- the first that is true

-- the first of the list of which P holds; None where it holds of none
abbrev pub IsFirstTrue : {X : Type 0} → (X → Type 0) → List X → Option X → Type 0
IsFirstTrue P [] first = first ≡ None
IsFirstTrue P (x ∷ xs) first = (P x × (first ≡ Some x)) ⊎ ((P x → ⊥) × IsFirstTrue P xs first)

-- ---- where parts begin

-- the identifier octets with which a field may begin (RFC 5280 4.1, 5.1)
abbrev pub field_openings : Field → List ℕ
field_openings field.Version = CONTEXT_CONSTRUCTED 0 ∷ []
field_openings field.ListVersion = INTEGER ∷ []
field_openings field.Serial = INTEGER ∷ []
field_openings field.ThisUpdate = UTC_TIME ∷ GENERALIZED_TIME ∷ []
field_openings field.NextUpdate = UTC_TIME ∷ GENERALIZED_TIME ∷ []
field_openings other = SEQUENCE ∷ []

-- those with which a part may begin; none where nothing may be left. At the extensions reading
-- stops at their tag, or inside it at their SEQUENCE
abbrev pub openings : Bool → Part → List ℕ
openings is_list (part.Field f) = field_openings f
openings true part.Extensions = CONTEXT_CONSTRUCTED 0 ∷ SEQUENCE ∷ []
openings false part.Extensions = CONTEXT_CONSTRUCTED 3 ∷ SEQUENCE ∷ []
openings is_list part.Behind = []
openings is_list part.Signature = BIT_STRING ∷ []
openings is_list other = SEQUENCE ∷ []

-- ---- single flaws

-- the octets begin with a value with this identifier octet, whose content is so
abbrev pub Encloses : ℕ → (List ℕ → Type 0) → List ℕ → Type 0
Encloses tag Is octets = (content : List ℕ) × Means (IsEnc tag) content octets × Is content

-- of the content of a serial number (X.690 8.3, RFC 5280 4.1.2.2)
abbrev pub IsSerialFlaw : List ℕ → SerialFlaw → Type 0
IsSerialFlaw content Empty = content ≡ []
IsSerialFlaw content Negative = (first : ℕ) × (more : List ℕ) × (content ≡ first ∷ more) × (128 ≤ first)
IsSerialFlaw content Padded = IsInteger content → ⊥
IsSerialFlaw content Large = 2 ^ 160 ≤ number_from_digits 256 content

-- of the content of the INTEGER of a version, which has to be this one (RFC 5280 4.1.2.1)
abbrev pub IsVersionFlaw : ℕ → List ℕ → VersionFlaw → Type 0
IsVersionFlaw wanted content version.One = content ≡ 0 ∷ []
IsVersionFlaw wanted content version.Two = content ≡ 1 ∷ []
IsVersionFlaw wanted content version.Other = content ≢ wanted ∷ []

-- the numbers of a time as a moment, whether the calendar and a clock have it or not
abbrev pub numbered : TimeNumbers → Moment
numbered n = moment n.year n.month n.day n.hour n.minute n.second

-- each number behind the year has two digits
pub record HasTwoDigits (m : Moment) : Type 0 where
  pub month : m.month < 100
  pub day : m.day < 100
  pub hour : m.hour < 100
  pub minute : m.minute < 100
  pub second : m.second < 100

-- the numbers stand here as UTCTime or GeneralizedTime, to the second and with Z (X.690 11.7, 11.8)
pub record HasNumbers (m : Moment) (b : List ℕ) : Type 0 where
  pub year : m.year < 10000
  pub digits : HasTwoDigits m
  pub encoded : IsUtcTime m b ⊎ IsGeneralizedTime m b

-- a number that no moment has: a month of the year, a day of the month, or one of a clock
abbrev pub IsOut : Moment → TimeFlaw → Type 0
IsOut m time.Form = ⊥
IsOut m time.Month = (m.month ≡ 0) ⊎ (12 < m.month)
IsOut m time.Day = (m.day ≡ 0) ⊎ (days_in_month m.year m.month < m.day)
IsOut m time.Hour = 23 < m.hour
IsOut m time.Minute = 59 < m.minute
IsOut m time.Second = 59 < m.second

-- of a time that stands first: it has no numbers, or one of them is out
abbrev pub IsTimeFlaw : List ℕ → TimeFlaw → Type 0
IsTimeFlaw octets time.Form = (m : Moment) → Means HasNumbers m octets → ⊥
IsTimeFlaw octets f = (m : Moment) × Means HasNumbers m octets × IsOut m f

-- of the second of two times, behind one that exists
abbrev pub IsSecondTimeFlaw : List ℕ → TimeFlaw → Type 0
IsSecondTimeFlaw octets f = (m : Moment) × (rest : List ℕ) × Begins IsTime octets m rest × IsTimeFlaw rest f

-- the extension of these three
abbrev pub extension_of : List ℕ → Bool → List ℕ → Extension
extension_of identifier critical content = record { identifier = identifier; critical = critical; content = content }

-- of an extension: its flag is one that its kind may not have, or its content; or both are well,
-- and so it stands behind another one of its kind
abbrev pub IsExtensionFlaw : Bool → Extension → ExtensionFlaw → Type 0
IsExtensionFlaw is_list x Critical = (x.critical ≡ true) × (MayHaveFlag is_list (known_kind is_list x.identifier) true → ⊥)
IsExtensionFlaw is_list x NotCritical = (x.critical ≡ false) × (MayHaveFlag is_list (known_kind is_list x.identifier) false → ⊥)
IsExtensionFlaw is_list x OtherContent = HasContent (known_kind is_list x.identifier) x.content → ⊥
IsExtensionFlaw is_list x Second =
    MayHaveFlag is_list (known_kind is_list x.identifier) x.critical × HasContent (known_kind is_list x.identifier) x.content

-- of the octets from the one on at which reading stops, and of the part at which it does
abbrev pub IsFlaw : Bool → Part → List ℕ → Flaw → Type 0
IsFlaw is_list p octets flaw.End = octets ≡ []
IsFlaw is_list p octets (flaw.Other identifier) =
    (rest : List ℕ) × (octets ≡ identifier ∷ rest) × (Contains (openings is_list p) identifier → ⊥)
IsFlaw is_list p octets flaw.Broken = (tag : ℕ) (content : List ℕ) → Means (IsEnc tag) content octets → ⊥
IsFlaw is_list p octets (flaw.Serial f) = Encloses INTEGER (λ n. IsSerialFlaw n f) octets
IsFlaw is_list p octets (flaw.Version f) =
    Encloses (CONTEXT_CONSTRUCTED 0) (Encloses INTEGER (λ n. IsVersionFlaw 2 n f)) octets
IsFlaw is_list p octets (flaw.ListVersion f) = Encloses INTEGER (λ n. IsVersionFlaw 1 n f) octets
IsFlaw is_list p octets (flaw.Time f) = IsTimeFlaw octets f
IsFlaw is_list p octets (flaw.NotBefore f) = Encloses SEQUENCE (λ times. IsTimeFlaw times f) octets
IsFlaw is_list p octets (flaw.NotAfter f) = Encloses SEQUENCE (λ times. IsSecondTimeFlaw times f) octets
IsFlaw is_list p octets (flaw.Extension f) =
    (x : Extension) × Means IsExtension x octets × IsExtensionFlaw is_list x f

-- ---- the flaws of a part, in the order in which they are looked for

abbrev pub serial_flaws : List SerialFlaw
serial_flaws = Empty ∷ Negative ∷ Padded ∷ Large ∷ []

-- the version of a certificate is 3, that of a list 2
abbrev pub version_flaws : List VersionFlaw
version_flaws = version.One ∷ version.Two ∷ version.Other ∷ []

abbrev pub list_version_flaws : List VersionFlaw
list_version_flaws = version.One ∷ version.Other ∷ []

abbrev pub time_flaws : List TimeFlaw
time_flaws = time.Form ∷ time.Month ∷ time.Day ∷ time.Hour ∷ time.Minute ∷ time.Second ∷ []

abbrev pub extension_flaws : List ExtensionFlaw
extension_flaws = Critical ∷ NotCritical ∷ OtherContent ∷ Second ∷ []

-- of a field
abbrev pub field_flaws : Field → List Flaw
field_flaws field.Version = map flaw.Version version_flaws
field_flaws field.ListVersion = map flaw.ListVersion list_version_flaws
field_flaws field.Serial = map flaw.Serial serial_flaws
field_flaws field.Validity = map flaw.NotBefore time_flaws ++ map flaw.NotAfter time_flaws
field_flaws field.ThisUpdate = map flaw.Time time_flaws
field_flaws field.NextUpdate = map flaw.Time time_flaws
field_flaws other = []

-- of a value that a part may begin with; of an extension that no list may have, none
abbrev pub own_flaws : Part → List Flaw
own_flaws (part.Field f) = field_flaws f
own_flaws (part.Kind NoList) = []
own_flaws (part.Kind k) = map flaw.Extension extension_flaws
own_flaws (part.Second k) = map flaw.Extension extension_flaws
own_flaws other = []

-- of a part where these octets stand
abbrev pub flaws : Part → List ℕ → List Flaw
flaws p [] = flaw.End ∷ []
flaws p (identifier ∷ rest) = flaw.Other identifier ∷ flaw.Broken ∷ own_flaws p

-- what is told of the octets from the one on at which reading stops: their first flaw, or none
abbrev pub IsFirstFlaw : Bool → Part → List ℕ → Option Flaw → Type 0
IsFirstFlaw is_list p octets = IsFirstTrue (IsFlaw is_list p octets) (flaws p octets)

-- ---- between functions

-- of an extension of a kind that may have its flag: its content is another one, or it is well
abbrev pub IsContentFlaw : Kind → List ℕ → Option ExtensionFlaw → Type 0
IsContentFlaw kind content found =
    ((found ≡ Some OtherContent) × (HasContent kind content → ⊥)) ⊎ ((found ≡ Some Second) × HasContent kind content)
