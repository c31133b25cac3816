use Rattle.rpki_command.proofs.folders.file_names.Goals as goal

pub returns-in-Tree : goal.returns-in-Tree
returns-in-Tree g c = rw c.in-Tree.is (rw c.deref.ensures.value at c.opened.ensures)
