-- What is written of entries is short, and is read as these entries.
use Rattle.std.specs.Int.Digits.{digits_of}
use Rattle.std.specs.List.{AllByRecursion}
use Rattle.std.proofs.Common.{◌≡◌, ℕ, ◌^◌, ◌<◌, ◌≤◌, List, [], ◌∷◌, length, ◌++◌, Some, refl, sym, ap, ◌∙◌, append_assoc, arith}
use Rattle.std.proofs.lemmas.Int.Digits.{length-digits_of-le}
use Rattle.std.proofs.lemmas.List.{append-nil, length-append}
use Rattle.rpki_der.specs.Tags.{SEQUENCE}
use Rattle.rpki_der.specs.Primitives.{unsigned, number}
use Rattle.rpki_der.specs.Times.{Moment, time}
use Rattle.rpki_der.specs.Sequences.Reading.{sequence_of}
use Rattle.rpki_der.proofs.Octets.{some}
use Rattle.rpki_der.proofs.RoundTrips.{enc_small, unsigned_small}
use Rattle.rpki_der.proofs.Sequences.{sequence_again}
use Rattle.rpki_der.proofs.SequenceWalks.{passed}
use Rattle.rpki_parts.proofs.Lengths.{time_short}
use Rattle.rpki_crl.specs.RevokedEntries.{Entry, IsEntry, AreEntries, FitsEntry, entry, entry_content_format}
use Rattle.rpki_crl.specs.RevokedEntries.{entry_format, entries, entries_in, entries_pass, or_none}
use Rattle.rpki_crl.proofs.EntryReads.{entry_alone, entry_reads, entry_shrinks}

-- a serial number that is written has at most 23 octets
pub serial_short : (n : ℕ) → n < 2 ^ 160 → length (number n) ≤ 23
unfolding number
serial_short n h =
    let digits = length-digits_of-le 256 20 n (omega arith) h in
    let content = unsigned_small (digits_of 256 n) in
    let whole = enc_small 2 (unsigned (digits_of 256 n)) (omega arith) in
    omega (arith, whole, content, digits)

-- an entry that is written has a content of at most 40 octets
pub entry_short : (n : ℕ) (m : Moment) → n < 2 ^ 160 → length (number n ++ time m) ≤ 40
entry_short n m h = omega (arith, length-append (number n) (time m), serial_short n h, time_short m)

-- an entry
entry_made : (e : Entry) → FitsEntry e → IsEntry e (entry e)
unfolding entry_format entry_content_format
entry_made e fits =
    let short = entry_short e.serial e.date fits.0 in
    entry_alone.law.made e fits (omega (arith, enc_small SEQUENCE (number e.serial ++ time e.date) (omega arith), short))

-- a sequence of them
pub elements_made : (es : List Entry) → AllByRecursion FitsEntry es → AreEntries es (entries es)
elements_made [] all = refl
elements_made (e ∷ es) all = (entry e, entries es, entry_made e all.0, elements_made es all.1, refl)

-- what is written of entries is read as them
pub sequence_is_read : (es : List Entry) → AllByRecursion FitsEntry es → sequence_of entry_format.read (entries es) ≡ some es
sequence_is_read es all = sequence_again entry_format.read IsEntry entry_reads entry_shrinks es (entries es) (elements_made es all)

-- what is written of entries passes the walk over them
pub sequence_passes : (es : List Entry) → AllByRecursion FitsEntry es → entries_pass (entries es) ≡ Some tt
unfolding entries_pass
sequence_passes es all = passed entry_format.read (entries es) ∙ rw (sequence_is_read es all) refl

-- what is written of entries has them
pub sequence_has : (es : List Entry) → AllByRecursion FitsEntry es → entries_in (entries es) ≡ es
sequence_has es all = ap or_none (sequence_is_read es all)

-- one entry more
pub entries_more : (es : List Entry) (e : Entry) → entries (es ++ e ∷ []) ≡ entries es ++ entry e
entries_more [] e = append-nil (entry e)
entries_more (d ∷ es) e = ap (λ (b : List ℕ). entry d ++ b) (entries_more es e) ∙ sym (append_assoc (entry d) (entries es) (entry e))

-- what fits with one entry more fits
pub all_more : (es : List Entry) (e : Entry) → AllByRecursion FitsEntry es → FitsEntry e → AllByRecursion FitsEntry (es ++ e ∷ [])
all_more [] e all one = (one, tt)
all_more (d ∷ es) e all one = (all.0, all_more es e all.1 one)
