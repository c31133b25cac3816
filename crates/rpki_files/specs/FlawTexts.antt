-- What is told of what is found where reading stops: a table, in the order in which the types name
-- them.
use Rattle.std.specs.Prelude.{ℕ, List, [], ◌∷◌, ◌++◌, codes, ◌==◌, if◌then◌else◌}
use Rattle.rpki_der.specs.Tags.{BIT_STRING, BOOLEAN, CONTEXT_CONSTRUCTED, GENERALIZED_TIME, INTEGER, NULL}
use Rattle.rpki_der.specs.Tags.{OBJECT_IDENTIFIER, OCTET_STRING, PRINTABLE_STRING, SEQUENCE, SET, UTC_TIME}
use Rattle.rpki_der.specs.Tags.{UTF8_STRING}
use Rattle.rpki_files.specs.declared.flaws.ExtensionFlaw.{ExtensionFlaw}
use Rattle.rpki_files.specs.declared.flaws.ExtensionFlaw.TheVariants.{Critical, NotCritical, OtherContent, Second}
use Rattle.rpki_files.specs.declared.flaws.Flaw.{Flaw}
use Rattle.rpki_files.specs.declared.flaws.Flaw.TheVariants as flaw
use Rattle.rpki_files.specs.declared.flaws.SerialFlaw.{SerialFlaw}
use Rattle.rpki_files.specs.declared.flaws.SerialFlaw.TheVariants.{Empty, Negative, Padded, Large}
use Rattle.rpki_files.specs.declared.flaws.TimeFlaw.{TimeFlaw}
use Rattle.rpki_files.specs.declared.flaws.TimeFlaw.TheVariants as time
use Rattle.rpki_files.specs.declared.flaws.VersionFlaw.{VersionFlaw}
use Rattle.rpki_files.specs.declared.flaws.VersionFlaw.TheVariants as version

-- the text beside a number, or another one where it stands nowhere
abbrev pub text_among : List (ℕ × List ℕ) → List ℕ → ℕ → List ℕ
text_among [] other n = other
text_among (named ∷ more) other n = if n == named.0 then named.1 else text_among more other n

-- values of the universal types of X.680, by their identifier octet
abbrev pub universal_values : List (ℕ × List ℕ)
universal_values =
    (BOOLEAN, codes "a BOOLEAN")
    ∷ (INTEGER, codes "an INTEGER")
    ∷ (BIT_STRING, codes "a BIT STRING")
    ∷ (OCTET_STRING, codes "an OCTET STRING")
    ∷ (NULL, codes "a NULL")
    ∷ (OBJECT_IDENTIFIER, codes "an OBJECT IDENTIFIER")
    ∷ (UTF8_STRING, codes "a UTF8String")
    ∷ (PRINTABLE_STRING, codes "a PrintableString")
    ∷ (UTC_TIME, codes "a UTCTime")
    ∷ (GENERALIZED_TIME, codes "a GeneralizedTime")
    ∷ (SEQUENCE, codes "a SEQUENCE")
    ∷ (SET, codes "a SET")
    ∷ []

-- values inside a tag
abbrev pub tagged_values : List (ℕ × List ℕ)
tagged_values =
    (CONTEXT_CONSTRUCTED 0, codes "a value inside [0]")
    ∷ (CONTEXT_CONSTRUCTED 1, codes "a value inside [1]")
    ∷ (CONTEXT_CONSTRUCTED 2, codes "a value inside [2]")
    ∷ (CONTEXT_CONSTRUCTED 3, codes "a value inside [3]")
    ∷ []

-- a value with this identifier octet
abbrev pub value_named : ℕ → List ℕ
value_named identifier = text_among (universal_values ++ tagged_values) (codes "a value of another type") identifier

-- of a serial number
abbrev pub serial_flaw_text : SerialFlaw → List ℕ
serial_flaw_text Empty = codes "an INTEGER without bytes"
serial_flaw_text Negative = codes "a negative number"
serial_flaw_text Padded = codes "a number that isn't in the shortest form"
serial_flaw_text Large = codes "a number of more than 20 bytes"

-- of a version
abbrev pub version_flaw_text : VersionFlaw → List ℕ
version_flaw_text version.One = codes "version 1"
version_flaw_text version.Two = codes "version 2"
version_flaw_text version.Other = codes "another number"

-- of a time
abbrev pub time_flaw_text : TimeFlaw → List ℕ
time_flaw_text time.Form = codes "no UTCTime YYMMDDhhmmssZ and no GeneralizedTime YYYYMMDDhhmmssZ"
time_flaw_text time.Month = codes "a month that is 0 or above 12"
time_flaw_text time.Day = codes "a day that the month doesn't have"
time_flaw_text time.Hour = codes "an hour above 23"
time_flaw_text time.Minute = codes "a minute above 59"
time_flaw_text time.Second = codes "a second above 59"

-- of an extension
abbrev pub extension_flaw_text : ExtensionFlaw → List ℕ
extension_flaw_text Critical = codes "critical"
extension_flaw_text NotCritical = codes "not critical"
extension_flaw_text OtherContent = codes "another content"
extension_flaw_text Second = codes "a second one"

-- in which of the two times of a validity
abbrev pub which_time : Flaw → List ℕ
which_time (flaw.NotBefore f) = codes "notBefore has "
which_time (flaw.NotAfter f) = codes "notAfter has "
which_time other = codes ""

-- of a part
abbrev pub bare_flaw_text : Flaw → List ℕ
bare_flaw_text flaw.End = codes "nothing: the file ends there"
bare_flaw_text (flaw.Other identifier) = value_named identifier
bare_flaw_text flaw.Broken = codes "a value whose length isn't DER's, or goes past the end of the file"
bare_flaw_text (flaw.Serial f) = serial_flaw_text f
bare_flaw_text (flaw.Version f) = version_flaw_text f
bare_flaw_text (flaw.ListVersion f) = version_flaw_text f
bare_flaw_text (flaw.Time f) = time_flaw_text f
bare_flaw_text (flaw.NotBefore f) = time_flaw_text f
bare_flaw_text (flaw.NotAfter f) = time_flaw_text f
bare_flaw_text (flaw.Extension f) = extension_flaw_text f

-- all that is told
abbrev pub flaw_text : Flaw → List ℕ
flaw_text f = which_time f ++ bare_flaw_text f
