use Rattle.std.proofs.Common.{length}
use Rattle.std.specs.Fmt.{IsPlainFormatter}
use Rattle.rpki_parts.specs.NameTexts.{octets_text, string_text}
use Rattle.rpki_parts.proofs.NameTexts.{IsPartWritten}
use Rattle.rpki_parts.proofs.name_text.write_string.Given as goal

abbrev pub invariant-loop-octet : goal.invariant-loop-octet
invariant-loop-octet g l = IsPlainFormatter l.initial.f →
    IsPartWritten g.W.Write.write_str_gives l.initial.f (string_text l.octets) l.f (octets_text l.is_first l.rest)

abbrev pub decreases-loop-octet : goal.decreases-loop-octet
decreases-loop-octet g l = length l.rest
