use Rattle.rpki_der.proofs.cursor.Cursor.fork.Goals as goal

pub returns-clause-octets : goal.returns-clause-octets
returns-clause-octets c = rw (← c.rest-octets.ensures.remaining) c.rest-octets.ensures.octets
