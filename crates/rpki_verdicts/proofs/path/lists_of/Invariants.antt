use Rattle.std.proofs.Common.{take}
use Rattle.rpki_files.specs.Files.{contents}
use Rattle.rpki_verdicts.specs.PathFiles.{AreListsOf}
use Rattle.rpki_verdicts.proofs.path.lists_of.Given as goal

abbrev pub invariant-loop-file : goal.invariant-loop-file
invariant-loop-file l = AreListsOf (take l.file-index (contents l.files)) l.all.items
