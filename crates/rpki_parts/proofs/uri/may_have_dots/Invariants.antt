use Rattle.std.proofs.Common.{◌≡◌, not, ◌&&◌, drop}
use Rattle.rpki_parts.proofs.DotSegments.{none_begins}
use Rattle.rpki_parts.proofs.uri.may_have_dots.Given as goal

abbrev pub invariant-loop-octet : goal.invariant-loop-octet
invariant-loop-octet l = none_begins 47 l.path ≡ (not l.begins && none_begins l.before (drop l.octet-index l.path))
