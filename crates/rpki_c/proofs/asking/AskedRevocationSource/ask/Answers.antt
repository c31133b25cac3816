use Rattle.rpki_c.proofs.asking.AskedRevocationSource.ask.Goals as goal

pub returns-then-self : goal.returns-then-self
returns-then-self g c = rw (← c.self.view_is, c.if-self.true) (rw c.with_names-given.ensures at c.ask.ensures)
