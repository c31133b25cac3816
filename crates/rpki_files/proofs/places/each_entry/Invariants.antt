use Rattle.std.proofs.Common.{List, length}
use Rattle.rpki_der.specs.Place.{remaining}
use Rattle.rpki_crl.specs.RevokedEntries.{AreEntries, Entry}
use Rattle.rpki_files.specs.StopPlaces.{Passes}
use Rattle.rpki_files.proofs.places.each_entry.Given as goal

-- entries were read so far
abbrev pub invariant-loop-rest : goal.invariant-loop-rest
invariant-loop-rest l = (entries : List Entry) × Passes (AreEntries entries) l.inside l.rest

abbrev pub decreases-loop-rest : goal.decreases-loop-rest
decreases-loop-rest l = length (remaining l.rest)
