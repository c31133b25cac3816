use Rattle.std.proofs.Common.{take}
use Rattle.rpki_text.specs.CommandLines.Views.{word_octets}
use Rattle.rpki_command.specs.SoughtPaths.{AreListNames}
use Rattle.rpki_command.proofs.searching.list_names.Given as goal

abbrev pub invariant-loop-file : goal.invariant-loop-file
invariant-loop-file l = AreListNames (take l.file-index l.files) (word_octets l.names.items)
