use Rattle.std.proofs.Common.{take}
use Rattle.rpki_files.specs.StopPlaces.{AreFields, Passes}
use Rattle.rpki_files.proofs.places.past_all.Given as goal

-- the fields so far were read
abbrev pub invariant-loop-field : goal.invariant-loop-field
invariant-loop-field l = Passes (AreFields (take l.field-index l.fields)) l.fn.cursor l.cursor
