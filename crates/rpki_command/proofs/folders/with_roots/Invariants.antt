use Rattle.std.proofs.Common.{◌≡◌, map, take}
use Rattle.rpki_text.specs.CommandLines.Views.{word_octets}
use Rattle.rpki_command.proofs.folders.with_roots.Given as goal

abbrev pub invariant-loop-root : goal.invariant-loop-root
invariant-loop-root l = map (λ name. name.now) l.folders.items ≡ word_octets (take l.root-index l.roots)
