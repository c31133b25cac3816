use Rattle.rpki_cert.proofs.Orders.{IsOrderSoFar}
use Rattle.rpki_cert.proofs.order.is_order.Given as goal

abbrev pub invariant-loop-place : goal.invariant-loop-place
invariant-loop-place l = IsOrderSoFar l.count l.seen.items l.order l.place-index
