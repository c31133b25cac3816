use Rattle.std.proofs.Common.{◌≡◌, List, length, map}
use Rattle.rpki_der.specs.Extensions.{Extension}
use Rattle.rpki_der.specs.Place.{remaining}
use Rattle.rpki_files.specs.StopPlaces.{AreWellPlaced, Passes, extension_kind}
use Rattle.rpki_files.proofs.places.each_extension.Given as goal

-- extensions were read so far, and these are their kinds
abbrev pub invariant-loop-rest : goal.invariant-loop-rest
invariant-loop-rest l =
    (xs : List Extension) × Passes (AreWellPlaced l.is_list xs) l.inside l.rest × (l.kinds.items ≡ map (extension_kind l.is_list) xs)

abbrev pub decreases-loop-rest : goal.decreases-loop-rest
decreases-loop-rest l = length (remaining l.rest)
