use Rattle.std.proofs.Common.{◌≡◌, ◌++◌}
use Rattle.rpki_ext.proofs.WritingSteps.{written_before}
use Rattle.rpki_ext.proofs.extensions.Extensions.append_sequence.Given as goal

abbrev pub invariant-loop-kind : goal.invariant-loop-kind
invariant-loop-kind l = l.out.items ≡ l.initial.out.items ++ written_before l.self l.kind-index
