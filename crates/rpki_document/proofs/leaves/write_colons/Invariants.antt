use Rattle.std.proofs.Common.{take}
use Rattle.std.specs.Fmt.{HasWritten, IsPlainFormatter}
use Rattle.std.specs.List.{flat_map}
use Rattle.std.specs.Prelude.{◌∷◌}
use Rattle.rpki_document.specs.Texts.{two_digits}
use Rattle.rpki_document.proofs.leaves.write_colons.Given as goal

abbrev pub invariant-loop-octet : goal.invariant-loop-octet
invariant-loop-octet g l =
    IsPlainFormatter l.initial.f →
    HasWritten g.W.Write.write_str_gives l.initial.f
    (flat_map (λ more. 58 ∷ two_digits more) (take l.octet-index l.more)) l.f
