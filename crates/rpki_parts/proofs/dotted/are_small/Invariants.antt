use Rattle.std.proofs.Common.{◌≡◌, length}
use Rattle.rpki_parts.specs.NameTexts.{are_small}
use Rattle.rpki_parts.proofs.dotted.are_small.Given as goal

abbrev pub invariant-loop-octet : goal.invariant-loop-octet
invariant-loop-octet l = are_small l.number l.rest ≡ are_small 0 l.id

abbrev pub decreases-loop-octet : goal.decreases-loop-octet
decreases-loop-octet l = length l.rest
