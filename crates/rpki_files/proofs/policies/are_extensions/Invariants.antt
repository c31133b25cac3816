use Rattle.std.proofs.Common.{◌↔◌, ◌+◌, ◌≤◌, length}
use Rattle.rpki_der.specs.Place.{remaining}
use Rattle.rpki_files.specs.PolicyPresence.{AreAnyExtensions}
use Rattle.rpki_files.proofs.policies.are_extensions.Given as goal

abbrev pub invariant-loop : goal.invariant-loop
invariant-loop l = record {
  same : AreAnyExtensions (remaining l.rest) ↔ AreAnyExtensions (remaining l.elements);
  fits : length (remaining l.rest) + l.counter ≤ l.end;
}
