use Rattle.std.proofs.Common.{◌≡◌, ap, ◌∙◌}
use Rattle.rpki_der.specs.Place.{remaining}
use Rattle.rpki_der.proofs.piece.Piece.cursor.Goals as goal

pub returns-clause-octets : goal.returns-clause-octets
returns-clause-octets c =
    let e : c.rest-octets.result.now ≡ c.args.self.now = c.rest-octets.ensures.remaining ∙
    ap remaining c.of_span-cursor.ensures ∙ c.self.view_is in
    rw (← e) c.rest-octets.ensures.octets
