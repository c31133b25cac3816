use Rattle.rpki_der.specs.Place.{Place, MovesOn}
use Rattle.rpki_der.proofs.Places.{until_is}
use Rattle.rpki_der.proofs.cursor.Cursor.until.Goals as goal

pub returns : goal.returns
returns c =
    let p : Place = record { source = c.self.inside.source.now; from = c.self.inside.from; to = c.self.inside.to } in
    let q : Place = record { source = c.later.inside.source.now; from = c.later.inside.from; to = c.later.inside.to } in
    let on : MovesOn p q = rw (c.self.view_is, c.later.view_is) c.requires in
    rw (← c.self.view_is, ← c.later.view_is) (until_is p q on c.later.invariant.0 c.later.invariant.1)
