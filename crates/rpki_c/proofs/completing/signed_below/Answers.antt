use Rattle.rpki_c.proofs.completing.signed_below.Goals as goal

pub returns-in_default : goal.returns-in_default
returns-in_default c = rw c.in_ok-octets.ensures at (rw c.in_default.is at c.in_ok-tbs.ensures)
