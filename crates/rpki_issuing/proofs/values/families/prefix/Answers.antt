use Rattle.std.proofs.Common.{arith, sym, ◌∙◌}
use Rattle.std.proofs.lemmas.Bool.{eqb-true, eqb-false}
use Rattle.rpki_issuing.proofs.PrefixesRead.{AreRead, only_prefix, no_prefix}
use Rattle.rpki_issuing.proofs.values.families.prefix.Goals as goal

pub returns-in_err-address : goal.returns-in_err-address
returns-in_err-address c = rw c.from_residual.ensures (λ v is. c.in_err-address.ensures.one is.address is.address_is)

pub returns-in_err-count : goal.returns-in_err-count
returns-in_err-count c = rw c.from_residual-in_err-count.ensures (λ v is. c.in_err-count.ensures is.count is.count_is)

pub returns-then-count-bits : goal.returns-then-count-bits
returns-then-count-bits c = λ v is. let same = c.in_ok-count.ensures.1 is.count is.count_is in
    omega (arith, same, is.fits)

pub returns-then-eq : goal.returns-then-eq
returns-then-eq c =
    let read : AreRead c.args.family c.args.before.now c.args.behind.now c.in_ok-address.address
    c.in_ok-count.count =
    record { address_is = c.in_ok-address.ensures.one; count_is = c.in_ok-count.ensures } in
    let whole = sym c.min.ensures ∙ eqb-true _ _ (sym c.if-eq.ensures) ∙ sym c.to_bits.ensures ∙
    sym c.new.ensures.address in
    only_prefix _ _ _ _ _ c.new.result.addr c.new.result.len c.from-block.result read (omega arith)
    (c.new.ensures.address ∙ c.to_bits.ensures ∙ c.first_of-first.ensures) c.new.ensures.length
    c.from-block.ensures whole

pub returns-else-eq : goal.returns-else-eq
returns-else-eq c =
    let read : AreRead c.args.family c.args.before.now c.args.behind.now c.in_ok-address.address
    c.in_ok-count.count =
    record { address_is = c.in_ok-address.ensures.one; count_is = c.in_ok-count.ensures } in
    let first = c.new.ensures.address ∙ c.to_bits.ensures in
    no_prefix _ _ _ _ _ c.new.result.addr c.new.result.len c.from-block.result read
    (first ∙ c.first_of-first.ensures) c.new.ensures.length c.from-block.ensures
    (λ same. eqb-false _ _ (sym c.if-eq.ensures) (c.min.ensures ∙ same ∙ first))
