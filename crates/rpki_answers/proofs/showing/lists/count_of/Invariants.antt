use Rattle.std.proofs.Common.{◌≡◌, ◌+◌, length}
use Rattle.rpki_answers.proofs.showing.lists.count_of.Given as goal

abbrev pub invariant-loop-entry : goal.invariant-loop-entry
invariant-loop-entry l = l.count + length l._entry-iterator ≡ length l.revoked.entries
