use Rattle.std.proofs.Common.{◌≡◌, true, drop}
use Rattle.rpki_der.specs.Primitives.Reading.{ends_oid}
use Rattle.rpki_der.proofs.oid.has_ended.Given as goal

abbrev pub invariant-loop-octet : goal.invariant-loop-octet
invariant-loop-octet l = ends_oid l.ended (drop l.octet-index l.content) ≡ ends_oid true l.content
