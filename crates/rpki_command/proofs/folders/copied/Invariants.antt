use Rattle.std.proofs.Common.{◌≡◌, map, take}
use Rattle.rpki_text.specs.CommandLines.Views.{word_octets}
use Rattle.rpki_command.proofs.folders.copied.Given as goal

abbrev pub invariant-loop-name : goal.invariant-loop-name
invariant-loop-name l = word_octets l.all.items ≡ map (λ name. name.now) (take l.name-index l.names)
