use Rattle.rpki_files.proofs.found.flaw_of.Goals as goal

pub returns : goal.returns
returns c = rw c.new-at.ensures.all at c.first_flaw.ensures
