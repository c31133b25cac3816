use Rattle.std.proofs.Common.{◌≡◌, take}
use Rattle.std.specs.Char.{is_ascii_graphic}
use Rattle.std.specs.List.{list_all}
use Rattle.rpki_parts.proofs.uri.is_printable.Given as goal

abbrev pub invariant-loop-octet : goal.invariant-loop-octet
invariant-loop-octet l = l.all ≡ list_all is_ascii_graphic (take l.octet-index l.text)
