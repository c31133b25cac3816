use Rattle.std.proofs.Common.{◌≡◌, true, length}
use Rattle.std.specs.Fmt.{IsPlainFormatter}
use Rattle.rpki_parts.specs.NameTexts.{are_small, subidentifiers, numbers_text, dotted_text}
use Rattle.rpki_parts.proofs.NameTexts.{IsPartWritten}
use Rattle.rpki_parts.proofs.dotted.write_dotted.Given as goal

abbrev pub invariant-loop-octet : goal.invariant-loop-octet
invariant-loop-octet g l =
    (are_small l.number l.rest ≡ true)
    × (IsPlainFormatter l.initial.f →
    IsPartWritten g.W.Write.write_str_gives l.initial.f (dotted_text l.id) l.f
    (numbers_text l.is_first (subidentifiers l.number l.rest)))

abbrev pub decreases-loop-octet : goal.decreases-loop-octet
decreases-loop-octet g l = length l.rest
