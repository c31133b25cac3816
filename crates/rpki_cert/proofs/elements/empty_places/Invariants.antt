use Rattle.std.proofs.Common.{◌≡◌, ◌+◌, ◌-◌, ◌≤◌, [], length, replicate}
use Rattle.rpki_cert.proofs.elements.empty_places.Given as goal

abbrev pub invariant-loop-alloc : goal.invariant-loop-alloc
invariant-loop-alloc l = (l.places.items ≡ replicate (length l.places.items) []) × (length l.places.items ≤ l.count + 1)

abbrev pub decreases-loop-alloc : goal.decreases-loop-alloc
decreases-loop-alloc l = l.count + 1 - length l.places.items
