use Rattle.std.proofs.Common.{◌≡◌, map, take}
use Rattle.rpki_text.specs.CommandLines.Views.{word_octets}
use Rattle.rpki_command.proofs.folders.with_files.Given as goal

abbrev pub invariant-loop-name : goal.invariant-loop-name
invariant-loop-name l = map (λ name. name.now) l.files.items ≡ word_octets (take l.name-index l.names)
