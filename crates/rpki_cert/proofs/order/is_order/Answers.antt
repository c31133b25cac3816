use Rattle.std.proofs.Common.{rules, arith}
use Rattle.rpki_cert.proofs.Orders.{order_starts, order_goes_on, place_too_high, place_twice}
use Rattle.rpki_cert.proofs.order.is_order.Goals as goal
use Rattle.rpki_cert.proofs.order.is_order.Goals.{then-place-count-via-then-place-count, then-place-count-via-else-place-count+then-index}

pub loop-place-init : goal.loop-place-init
loop-place-init c = order_starts _ _ _ (search rules)

pub returns-then-place-count : goal.returns-then-place-count
returns-then-place-count c = (
  (λ t. search rules),
  λ o. elim c.then-place-count.branch [
    | then-place-count-via-then-place-count w ↦ absurd
        (place_too_high _ _ c.loop-place.place-index (omega arith) (omega (arith, w.if-place-count.true)) o)
    | then-place-count-via-else-place-count+then-index w ↦ absurd
        (place_twice _ c.loop-place.seen.items _ c.loop-place.place-index (omega arith)
        (omega (arith, w.if-place-count.false)) (search rules) c.loop-place.invariant o)
  ],
)

pub loop-place-preserved : goal.loop-place-preserved
loop-place-preserved c = order_goes_on _ _ _ _ (omega arith) (omega (arith, c.if-place-count.false)) (search rules) c.loop-place.invariant
