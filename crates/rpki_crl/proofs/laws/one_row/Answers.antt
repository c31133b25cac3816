use Rattle.std.proofs.Common.{sym, ◌∙◌}
use Rattle.rpki_der.proofs.Octets.{some_is}
use Rattle.rpki_der.proofs.Sequences.{sequence_again}
use Rattle.rpki_crl.specs.RevokedEntries.{IsEntry, entry_format}
use Rattle.rpki_crl.proofs.EntryReads.{entry_reads, entry_shrinks}
use Rattle.rpki_crl.proofs.laws.one_row.Goals as goal

pub returns : goal.returns
returns c ds es b one other =
    some_is ds es (sym (sequence_again entry_format.read IsEntry entry_reads entry_shrinks ds b one) ∙
    sequence_again entry_format.read IsEntry entry_reads entry_shrinks es b other)
