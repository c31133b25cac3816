use Rattle.std.proofs.Common.{◌≡◌, take}
use Rattle.rpki_crl.proofs.store.CrlStore.try_clone.Given as goal

abbrev pub invariant-loop-uri : goal.invariant-loop-uri
invariant-loop-uri l = l.pairs.items ≡ take l.uri-index l.self.pairs
