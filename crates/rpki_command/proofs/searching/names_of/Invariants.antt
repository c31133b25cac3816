use Rattle.std.proofs.Common.{◌≡◌, map, take}
use Rattle.rpki_text.specs.CommandLines.Views.{word_octets}
use Rattle.rpki_files.specs.Files.{file_names}
use Rattle.rpki_command.proofs.searching.names_of.Given as goal

abbrev pub invariant-loop-file : goal.invariant-loop-file
invariant-loop-file l = word_octets l.names.items ≡ file_names (map (λ f. f.now) (take l.file-index l.path))
