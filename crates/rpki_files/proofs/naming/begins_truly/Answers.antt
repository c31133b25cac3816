use Rattle.rpki_files.proofs.naming.begins_truly.Goals as goal

pub returns : goal.returns
returns c = rw c.new-at.ensures.all at c.names_truly.ensures
