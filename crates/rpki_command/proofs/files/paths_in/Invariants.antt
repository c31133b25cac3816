use Rattle.std.specs.Prelude.{All}
use Rattle.rpki_text.specs.CommandLines.Views.{word_octets}
use Rattle.rpki_command.specs.ListedFolders.{IsPathIn, slashed}
use Rattle.rpki_command.proofs.files.paths_in.Given as goal

abbrev pub invariant-loop-name : goal.invariant-loop-name
invariant-loop-name l = All (IsPathIn (slashed l.fn.name)) (word_octets l.paths.items)
