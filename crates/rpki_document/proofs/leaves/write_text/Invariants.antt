use Rattle.std.proofs.Common.{take}
use Rattle.std.specs.Fmt.{HasWritten, IsPlainFormatter}
use Rattle.rpki_document.specs.Texts.{escaped_text}
use Rattle.rpki_document.proofs.leaves.write_text.Given as goal

abbrev pub invariant-loop-octet : goal.invariant-loop-octet
invariant-loop-octet g l =
    IsPlainFormatter l.initial.f → HasWritten g.W.Write.write_str_gives l.initial.f (escaped_text l.escape (take l.octet-index l.octets)) l.f
