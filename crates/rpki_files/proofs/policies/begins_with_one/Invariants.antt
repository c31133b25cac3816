use Rattle.std.proofs.Common.{◌↔◌, ◌+◌, ◌≤◌, length}
use Rattle.rpki_der.specs.Place.{remaining}
use Rattle.rpki_files.specs.PolicyPresence.{BeginsWithOne}
use Rattle.rpki_files.proofs.policies.begins_with_one.Given as goal

abbrev pub invariant-loop : goal.invariant-loop
invariant-loop l = record {
  same : BeginsWithOne l.wanted (remaining l.rest) ↔ BeginsWithOne l.wanted (remaining l.elements);
  fits : length (remaining l.rest) + l.counter ≤ l.end;
}
