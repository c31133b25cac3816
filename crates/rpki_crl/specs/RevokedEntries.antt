-- Entries of a certificate revocation list (RFC 5280 5.1).
use Rattle.std.specs.Prelude.{◌≡◌, ℕ, ◌^◌, ◌<◌, List, [], ◌∷◌, map, Option, Some, None, Contains}
use Rattle.std.specs.List.{concat}
use Rattle.rpki_der.specs.BasicFormats.{serial_format, time_format}
use Rattle.rpki_der.specs.Folding.{over, pass}
use Rattle.rpki_der.specs.FormatChoices.{image, primitive}
use Rattle.rpki_der.specs.Formats.{Format, OPTIONAL, fields, part, tagged, ◌∶◌, ◌⨟◌}
use Rattle.rpki_der.specs.Tags.{SEQUENCE}
use Rattle.rpki_der.specs.Values.Reading.{◌>>=◌}
use Rattle.rpki_der.specs.Sequences.{AreEncodings}
use Rattle.rpki_der.specs.Sequences.Reading.{sequence_of}
use Rattle.rpki_der.specs.Times.{Moment, IsMoment}
use Rattle.rpki_der.specs.Writers.{Part}
pub mod Views

-- userCertificate and revocationDate
pub record Entry : Type 0 where
  pub serial : ℕ
  pub date : Moment

-- the content of an element of revokedCertificates:
-- SEQUENCE { userCertificate CertificateSerialNumber, revocationDate Time,
--   crlEntryExtensions Extensions OPTIONAL }   (RFC 5280 5.1)
-- restricted to no crlEntryExtensions (RFC 6487 5)
unfoldable pub entry_content_format : Format Entry
entry_content_format = fields (λ x. record { serial = x.0; date = x.1 })
    ((λ e. e.serial) ∶ serial_format
    ⨟ (λ e. e.date) ∶ time_format)

-- an element of revokedCertificates
unfoldable pub entry_format : Format Entry
entry_format = tagged SEQUENCE entry_content_format

-- they are encoded so
abbrev pub IsEntryContent : Entry → List ℕ → Type 0
IsEntryContent = entry_content_format.encodes

abbrev pub IsEntry : Entry → List ℕ → Type 0
IsEntry = entry_format.encodes

-- the octets are these entries, one after the other
abbrev pub AreEntries : List Entry → List ℕ → Type 0
AreEntries = AreEncodings IsEntry

-- some entry has the serial
abbrev pub IsRevoked : ℕ → List Entry → Type 0
IsRevoked serial entries = Contains (map (λ e. e.serial) entries) serial

-- entries, and the octets that they are
pub record Revoked : Type 0 where
  pub entries : List Entry
  pub octets : List ℕ

-- no entries and no octets
abbrev pub no_entries : Revoked
no_entries = record { entries = []; octets = [] }

-- ---- a list of entries

-- the entries that octets are
abbrev pub or_none : Option (List Entry) → List Entry
or_none (Some entries) = entries
or_none None = []

-- the entries of a sequence; none where the octets are no sequence of entries
abbrev pub entries_in : List ℕ → List Entry
entries_in octets = or_none (sequence_of entry_format.read octets)

-- whether they are entries
unfoldable pub entries_pass : List ℕ → Option (Unit {0})
entries_pass = over entry_format.read pass tt

-- a whole content as a sequence of entries
unfoldable pub revoked_of : List ℕ → Option Revoked
revoked_of content = entries_pass content >>= λ elements. Some (record { entries = entries_in content; octets = content })

-- the content is these entries, and it is kept
abbrev pub AreKept : Revoked → List ℕ → Type 0
AreKept r content = AreEntries r.entries content × (r.octets ≡ content)

-- the entries are those of the octets
abbrev pub FitsRevoked : Revoked → Type 0
FitsRevoked r = AreEntries r.entries r.octets

-- SEQUENCE OF SEQUENCE { .. }, kept as its content too
abbrev pub kept_entries : Format Revoked
kept_entries = primitive SEQUENCE revoked_of AreKept FitsRevoked (λ r. r.octets)

-- the entries that are read, or none where revokedCertificates is absent
abbrev pub or_no_entries : Option Revoked → Revoked
or_no_entries (Some revoked) = revoked
or_no_entries None = no_entries

-- absent where there are no octets (RFC 5280 5.1.2.6)
abbrev pub some_entries : List ℕ → List Entry → Option Revoked
some_entries [] entries = None
some_entries (octet ∷ octets) entries = Some (record { entries = entries; octets = octet ∷ octets })

-- revokedCertificates SEQUENCE OF SEQUENCE { .. } OPTIONAL   (RFC 5280 5.1)
-- a SEQUENCE without entries is read too, and not written (own)
unfoldable pub revoked_format : Format Revoked
revoked_format = image (λ o. Some (or_no_entries o)) (λ r. some_entries r.octets r.entries) (OPTIONAL SEQUENCE kept_entries)

-- they are encoded so
abbrev pub IsRevokedCertificates : Revoked → List ℕ → Type 0
IsRevokedCertificates = revoked_format.encodes

-- ---- what is written

-- the encoding of an entry
abbrev pub entry : Entry → List ℕ
entry = entry_format.written

-- the octets that are made of entries
abbrev pub entries : List Entry → List ℕ
entries es = concat (map entry es)

-- the serial is below 2^160 (RFC 5280 4.1.2.2; its INTEGER has 21 octets from 2^159 on), and the
-- moment exists
abbrev pub FitsEntry : Entry → Type 0
FitsEntry e = (e.serial < 2 ^ 160) × IsMoment e.date

-- the encoding of revokedCertificates
abbrev pub revoked : Revoked → List ℕ
revoked = revoked_format.written

-- the encoding of revokedCertificates, and what stands inside its SEQUENCE
abbrev pub revoked_part : Revoked → Part
revoked_part = part revoked_format
