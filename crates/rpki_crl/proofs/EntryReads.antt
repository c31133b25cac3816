-- An entry that is read is encoded so, and what is encoded so is read again.
use Rattle.std.proofs.Common.{refl, arith}
use Rattle.rpki_der.specs.Reading.{Reads}
use Rattle.rpki_der.specs.Sequences.Reading.{Shrinks}
use Rattle.rpki_der.proofs.FormatAnswers.{IsAlone, alone_reads, format_laws}
use Rattle.rpki_der.proofs.FormatLaws.{values_shrinks}
use Rattle.rpki_crl.specs.RevokedEntries.{IsEntry, entry_content_format, entry_format}

-- anything may follow the content of an entry
pub entry_content_alone : IsAlone entry_content_format
unfolding entry_content_format
entry_content_alone = record { law = search format_laws; none = refl }

-- and an entry
pub entry_alone : IsAlone entry_format
unfolding entry_format
entry_alone = record { law = search (format_laws, entry_content_alone.law); none = refl }

-- an entry is read as it is encoded
pub entry_reads : Reads entry_format.read IsEntry
entry_reads = alone_reads entry_format entry_alone

-- reading an entry uses octets up
pub entry_shrinks : Shrinks entry_format.read
unfolding entry_format
entry_shrinks = values_shrinks entry_format entry_alone.law entry_alone.none (omega arith)
