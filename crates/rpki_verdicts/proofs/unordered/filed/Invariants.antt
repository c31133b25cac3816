use Rattle.std.proofs.Common.{map, take}
use Rattle.rpki_verdicts.specs.Trees.{IsFolderOf}
use Rattle.rpki_verdicts.proofs.unordered.filed.Given as goal

abbrev pub invariant-loop-file : goal.invariant-loop-file
invariant-loop-file l = IsFolderOf (take l.file-index l.files) (map (λ f. f.now) l.certs.items) l.folder
