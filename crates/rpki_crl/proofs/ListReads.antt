-- A list of entries that is read stands at the front, and one that stands there is read.
use Rattle.std.proofs.Common.{◌≡◌, ℕ, List, [], ◌∷◌, Some, Result, refl, sym, ap, subst, ◌∙◌, arith}
use Rattle.rpki_der.specs.Tags.{SEQUENCE}
use Rattle.rpki_der.specs.Formats.{IsLawful, OPTIONAL}
use Rattle.rpki_der.specs.Place.{Place, Keeps, remaining}
use Rattle.rpki_der.specs.Place.Reading.{TookOrMemory}
use Rattle.rpki_der.specs.declared.error.DecodeError.{DecodeError}
use Rattle.rpki_der.specs.Reading.{content, optional, Inside, Optional, ReadsOrAbsent, ReadsWhole}
use Rattle.rpki_der.specs.Sequences.Reading.{sequence_of}
use Rattle.rpki_der.specs.Values.{AreOctets}
use Rattle.rpki_der.proofs.Choices.{inside_begins}
use Rattle.rpki_der.proofs.FormatChoices.{image_lawful, primitive_lawful}
use Rattle.rpki_der.proofs.FormatLaws.{optional_lawful}
use Rattle.rpki_der.proofs.Octets.{AreOctets-append, bind_some, some, some_is}
use Rattle.rpki_der.proofs.Optionals.{answers_or_absent_or_memory, map_value_or_absent, optional_or_absent}
use Rattle.rpki_der.proofs.Readings.{content_reads}
use Rattle.rpki_der.proofs.Sequences.{sequence_again, elements_are}
use Rattle.rpki_der.proofs.SequenceWalks.{passed}
use Rattle.rpki_der.proofs.WrittenOctets.{value_octets}
use Rattle.rpki_der.specs.Answers.{AnswersOrAbsentOrMemory}
use Rattle.rpki_crl.specs.RevokedEntries.{AreEntries, AreKept, Entry, FitsRevoked, IsEntry, IsRevokedCertificates}
use Rattle.rpki_crl.specs.RevokedEntries.{Revoked, entries_in, entries_pass, entry_format, kept_entries}
use Rattle.rpki_crl.specs.RevokedEntries.{or_no_entries, revoked_format, revoked_of, some_entries}
use Rattle.rpki_crl.proofs.EntryReads.{entry_reads, entry_shrinks}
use Rattle.rpki_crl.proofs.EntrySequences.{all_read, entries_are}

-- ---- a whole content

content_takes : (content : List ℕ) (r : Revoked) → AreOctets content → revoked_of content ≡ some r → AreKept r content
unfolding revoked_of
content_takes content r fits e =
    let made : Revoked = record { entries = entries_in content; octets = content } in
    let a = bind_some (entries_pass content) (λ elements. some made) r e in
    subst (λ (s : Revoked). AreKept s content) (some_is made r a.2) (
      elements_are entry_format.read IsEntry entry_reads content (entries_in content) fits
          (entries_are content a.1),
      refl,
    )

content_again : (r : Revoked) (content : List ℕ) → AreKept r content → revoked_of content ≡ some r
unfolding revoked_of entries_pass
content_again r content is =
    let elements : sequence_of entry_format.read content ≡ some r.entries = sequence_again entry_format.read IsEntry
    entry_reads entry_shrinks r.entries content is.0 in
    rw (passed entry_format.read content, elements, is.1) refl

content_is_read : ReadsWhole revoked_of AreKept
content_is_read = record { takes = content_takes; again = content_again }

entry_octets : (e : Entry) (b : List ℕ) → IsEntry e b → AreOctets b
unfolding entry_format
entry_octets e b (content, is, enc) = value_octets enc

-- entries consist of octets
pub entries_octets : (es : List Entry) (b : List ℕ) → AreEntries es b → AreOctets b
entries_octets [] b s = subst AreOctets (sym s) tt
entries_octets (e ∷ es) b s = subst AreOctets (sym s.4) (AreOctets-append s.0 s.1 (entry_octets e s.0 s.2) (entries_octets es s.1 s.3))

-- ---- the list

-- a list of entries that may be absent is lawful
pub revoked_lawful : IsLawful revoked_format
unfolding revoked_format
revoked_lawful =
    image_lawful (λ o. Some (or_no_entries o)) (λ r. some_entries r.octets r.entries) (OPTIONAL SEQUENCE kept_entries)
    (optional_lawful SEQUENCE kept_entries refl refl (omega arith)
    (primitive_lawful SEQUENCE revoked_of AreKept FitsRevoked (λ r. r.octets) (omega arith) (omega arith)
    content_is_read (λ r fits short. entries_octets r.entries r.octets fits) (λ r fits short. (fits, refl))))

-- revokedCertificates are read as they are encoded, absent or not
pub revoked_reads : ReadsOrAbsent SEQUENCE revoked_format.read IsRevokedCertificates
unfolding revoked_format
revoked_reads =
    map_value_or_absent SEQUENCE or_no_entries (optional SEQUENCE (content SEQUENCE revoked_of))
    (Optional (Inside SEQUENCE AreKept)) revoked_format.encodes
    (optional_or_absent SEQUENCE (content SEQUENCE revoked_of) (Inside SEQUENCE AreKept)
    (content_reads SEQUENCE revoked_of AreKept content_is_read) (inside_begins SEQUENCE AreKept))
    (λ o text s. (o, s, refl))
    (λ r text s. (s.0, some_is (or_no_entries s.0) r s.2, s.1))

-- a reader of them answers both ways
pub answers_revoked : (old : Place) (r : Result Revoked DecodeError) (new : Place) → AreOctets (remaining old) →
    TookOrMemory revoked_format.read old r new → Keeps r old new →
    AnswersOrAbsentOrMemory SEQUENCE revoked_format old r new
answers_revoked old r new fits took keeps =
    record {
      encoded = answers_or_absent_or_memory SEQUENCE revoked_format.read IsRevokedCertificates revoked_reads
          old r new fits took;
      reads = took;
      keeps = keeps;
    }

no_octets : (entries : List Entry) → AreEntries entries [] → [] ≡ entries
no_octets entries are =
    some_is [] entries
    (sym all_read ∙ sequence_again entry_format.read IsEntry entry_reads entry_shrinks entries [] are)

fits_so : (octets : List ℕ) (entries : List Entry) → AreEntries entries octets →
    revoked_format.fits (record { entries = entries; octets = octets })
unfolding revoked_format
fits_so [] entries are = (ap (λ (es : List Entry). some {A = Revoked} (record { entries = es; octets = [] })) (no_octets entries are), tt)
fits_so (octet ∷ octets) entries are = (refl, are)

-- entries and their octets can be written
pub revoked_fits : (r : Revoked) → FitsRevoked r → revoked_format.fits r
revoked_fits r are = fits_so r.octets r.entries are
