use Rattle.std.proofs.Common.{take}
use Rattle.rpki_path.specs.AskedLists.{IsForBelow, HaveNone}
use Rattle.rpki_path.proofs.revocation.given.one_for.Given as goal

abbrev pub invariant-loop-list : goal.invariant-loop-list
invariant-loop-list l = HaveNone (IsForBelow l.names l.issuer.cert.fields l.cert) (take l.list-index l.lists)
