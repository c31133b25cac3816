use Rattle.std.proofs.Common.{◌≡◌, ◌≤◌, length, take}
use Rattle.rpki_parts.specs.Uris.Tests.{through_slash}
use Rattle.rpki_parts.proofs.uri.through_slash.Given as goal

abbrev pub invariant-loop-end : goal.invariant-loop-end
invariant-loop-end l = (l.end ≤ length l.text) × (through_slash (take l.end l.text) ≡ through_slash l.text)

abbrev pub decreases-loop-end : goal.decreases-loop-end
decreases-loop-end l = l.end
