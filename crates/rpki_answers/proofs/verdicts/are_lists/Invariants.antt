use Rattle.std.specs.Prelude.{All, IsTrue}
use Rattle.std.proofs.Common.{◌↔◌, take}
use Rattle.rpki_files.specs.Contents.{IsList}
use Rattle.rpki_files.specs.Files.{contents}
use Rattle.rpki_answers.proofs.verdicts.are_lists.Given as goal

abbrev pub invariant-loop-object : goal.invariant-loop-object
invariant-loop-object l = IsTrue l.are_lists ↔ All IsList (take l.object-index (contents l.lists))
