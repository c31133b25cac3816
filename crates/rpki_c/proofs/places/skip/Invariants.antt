use Rattle.rpki_der.specs.Place.{MovesOn}
use Rattle.rpki_c.proofs.PlacesFound.{IsLeft}
use Rattle.rpki_c.proofs.places.skip.Given as goal

abbrev pub invariant-loop-tag : goal.invariant-loop-tag
invariant-loop-tag l = record {
  left : IsLeft l.tags l.tag-index l.fn.cursor l.cursor;
  moves : MovesOn l.fn.cursor l.cursor;
}
