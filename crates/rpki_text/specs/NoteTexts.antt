-- What is said of a note: its word, its sentence, and the section of the standard that it breaks.
use Rattle.std.specs.Prelude.{ℕ, List, codes}
use Rattle.rpki_text.specs.declared.notes.note.Note.{Note}
use Rattle.rpki_text.specs.declared.notes.note.Note.TheVariants as note

-- its word
abbrev pub note_name : Note → List ℕ
note_name note.SerialZero = codes "SerialZero"
note_name note.SerialLong = codes "SerialLong"
note_name note.IssuerForm = codes "IssuerForm"
note_name note.TimeForm = codes "TimeForm"
note_name note.SubjectForm = codes "SubjectForm"
note_name note.NameCharacters = codes "NameCharacters"
note_name note.EndEntityNotify = codes "EndEntityNotify"
note_name note.EndEntityMethod = codes "EndEntityMethod"
note_name note.EndEntityObjects = codes "EndEntityObjects"
note_name note.NotifyForm = codes "NotifyForm"
note_name note.NotifyScheme = codes "NotifyScheme"
note_name note.QualifierForm = codes "QualifierForm"
note_name note.IpNotCritical = codes "IpNotCritical"
note_name note.AsNotCritical = codes "AsNotCritical"
note_name note.IpForm = codes "IpForm"
note_name note.AsForm = codes "AsForm"
note_name note.BytesAfterValue = codes "BytesAfterValue"
note_name note.FlagForm = codes "FlagForm"
note_name note.ExtensionTwice = codes "ExtensionTwice"

-- its sentence
abbrev pub note_text : Note → List ℕ
note_text note.SerialZero = codes "the serial number is 0"
note_text note.SerialLong = codes "the serial number has more than 20 bytes"
note_text note.IssuerForm =
    codes "the issuer's name isn't a CommonName, with a serialNumber at most, in PrintableStrings"
note_text note.TimeForm = codes "a time from 1950 to 2049 is a GeneralizedTime"
note_text note.SubjectForm =
    codes "the subject's name isn't a CommonName, with a serialNumber at most, in PrintableStrings"
note_text note.NameCharacters = codes "a name has a character that PrintableString doesn't allow"
note_text note.EndEntityNotify = codes "an end entity names a notification file"
note_text note.EndEntityMethod = codes "an end entity has an unknown access method"
note_text note.EndEntityObjects = codes "an end entity has more than one signedObject"
note_text note.NotifyForm = codes "no https URI is named for rpkiNotify"
note_text note.NotifyScheme = codes "a URI of another scheme than https is named for rpkiNotify"
note_text note.QualifierForm = codes "the policy has other qualifiers than one statement of practices (CPS)"
note_text note.IpNotCritical = codes "IP resources aren't critical"
note_text note.AsNotCritical = codes "AS resources aren't critical"
note_text note.IpForm = codes "IP resources aren't sorted, merged and written in the shortest form"
note_text note.AsForm = codes "AS resources aren't sorted, merged and written in the shortest form"
note_text note.BytesAfterValue = codes "an extension has bytes after its value"
note_text note.FlagForm = codes "an extension states FALSE, the default of its flag"
note_text note.ExtensionTwice = codes "an extension appears twice"

-- its section
abbrev pub note_section : Note → List ℕ
note_section note.SerialZero = codes "RFC 6487 4.2"
note_section note.SerialLong = codes "RFC 5280 4.1.2.2"
note_section note.IssuerForm = codes "RFC 6487 4.4"
note_section note.TimeForm = codes "RFC 5280 4.1.2.5"
note_section note.SubjectForm = codes "RFC 6487 4.5"
note_section note.NameCharacters = codes "X.680 41.4"
note_section note.EndEntityNotify = codes "RFC 6487 4.8.8.2"
note_section note.EndEntityMethod = codes "RFC 6487 4.8.8.2"
note_section note.EndEntityObjects = codes "RFC 6487 4.8.8.2"
note_section note.NotifyForm = codes "RFC 8182 3.2"
note_section note.NotifyScheme = codes "RFC 8182 3.2"
note_section note.QualifierForm = codes "RFC 7318 2"
note_section note.IpNotCritical = codes "RFC 6487 4.8.10"
note_section note.AsNotCritical = codes "RFC 6487 4.8.11"
note_section note.IpForm = codes "RFC 3779 2.2.3"
note_section note.AsForm = codes "RFC 3779 3.2.3"
note_section note.BytesAfterValue = codes "RFC 5280 4.2"
note_section note.FlagForm = codes "X.690 11.5"
note_section note.ExtensionTwice = codes "RFC 5280 4.2"
