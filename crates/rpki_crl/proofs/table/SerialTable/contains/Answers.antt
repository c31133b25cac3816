use Rattle.std.proofs.Common.{◌≡◌, ℕ, ◌+◌, ◌-◌, ◌/◌, length, ap, subst, arith}
use Rattle.std.proofs.lemmas.Bool.{false≢true}
use Rattle.rpki_crl.specs.SerialTables.{digits}
use Rattle.rpki_crl.specs.SerialSearches.{Halving}
use Rattle.rpki_crl.specs.SerialSearches.Halving.{nothing, found, above, below}
use Rattle.rpki_crl.proofs.Buckets.{range_between}
use Rattle.rpki_crl.proofs.Halvings.{digits_step, digits_below, digits_grow, go_up, go_down, not_there}
use Rattle.rpki_crl.proofs.table.SerialTable.contains.Goals as goal

pub compare_at-requires-clause-room : goal.compare_at-requires-clause-room
compare_at-requires-clause-room c =
    let step = digits_step (c.loop-low.high - c.loop-low.low) (omega arith) in
    let all = digits_below (length c.args.self.now) c.places_of-low.ensures.small in
    omega (arith, c.loop-low.invariant.few, step, all)

pub loop-low-init : goal.loop-low-init
loop-low-init c =
    let low = c.places_of-low.result.0 in
    let high = c.places_of-low.result.1 in
    let between = range_between c.args.self.now c.args.serial low high c.places_of-low.ensures.range in
    record {
      between = between;
      few = omega (arith, digits_grow (high - low) (length c.args.self.now) (let in_it = between.inside in omega arith));
      rest = λ looks h. let none : looks ≡ c.new-count.result + looks = omega (arith, c.new-count.ensures) in
          subst (λ (n : ℕ). Halving c.args.self.now c.args.serial low high n) none h;
    }

pub loop-low-preserved-in-Less : goal.loop-low-preserved-in-Less
loop-low-preserved-in-Less c =
    let xs = c.args.self.now in
    let serial = c.args.serial in
    let low = c.loop-low.low in
    let high = c.loop-low.high in
    let n = high - low in
    let middle = low + n / 2 in
    let step = digits_step n (omega arith) in
    let grow = digits_grow (high - (middle + 1)) (n / 2) (omega arith) in
    record {
      between = go_up xs serial c.places_of-low.ensures.ascending low middle high c.loop-low.invariant.between
          (omega arith) (omega arith) c.in-Less.ensures.compared;
      few = omega (arith, c.loop-low.invariant.few, step, grow, c.compare_at.ensures.counted);
      rest = λ looks h.
          let one : c.loop-low.count + (looks + 1) ≡ c.compare_at.new.count + looks = omega (arith, c.compare_at.ensures.counted) in
          subst (λ (n : ℕ). Halving xs serial c.places_of-low.result.0 c.places_of-low.result.1 n) one
          (c.loop-low.invariant.rest (looks + 1)
          (above low high looks (omega arith) c.in-Less.ensures.compared h));
    }

pub loop-low-preserved : goal.loop-low-preserved
loop-low-preserved c =
    let xs = c.args.self.now in
    let serial = c.args.serial in
    let low = c.loop-low.low in
    let high = c.loop-low.high in
    let n = high - low in
    let middle = low + n / 2 in
    let step = digits_step n (omega arith) in
    let same : middle - low ≡ n / 2 = omega arith in
    record {
      between = go_down xs serial c.places_of-low.ensures.ascending low middle high c.loop-low.invariant.between
          (omega arith) (omega arith) c.in-Greater.ensures.compared;
      few = omega (arith, c.loop-low.invariant.few, step, ap digits same, c.compare_at.ensures.counted);
      rest = λ looks h.
          let one : c.loop-low.count + (looks + 1) ≡ c.compare_at.new.count + looks = omega (arith, c.compare_at.ensures.counted) in
          subst (λ (n : ℕ). Halving xs serial c.places_of-low.result.0 c.places_of-low.result.1 n) one
          (c.loop-low.invariant.rest (looks + 1)
          (below low high looks (omega arith) c.in-Greater.ensures.compared h));
    }

pub returns-in-Equal-clause-few : goal.returns-in-Equal-clause-few
returns-in-Equal-clause-few c =
    let step = digits_step (c.loop-low.high - c.loop-low.low) (omega arith) in
    omega (arith, c.loop-low.invariant.few, step, c.compare_at.ensures.counted)

pub returns-in-Equal-clause-searched : goal.returns-in-Equal-clause-searched
returns-in-Equal-clause-searched c =
    let low = c.places_of-low.result.0 in
    let high = c.places_of-low.result.1 in
    let one : c.loop-low.count + 1 ≡ c.compare_at.new.count = omega (arith, c.compare_at.ensures.counted) in
    record {
      low = low;
      high = high;
      range = c.places_of-low.ensures.range;
      halves = subst (λ (n : ℕ). Halving c.args.self.now c.args.serial low high n) one
          (c.loop-low.invariant.rest 1
          (found c.loop-low.low c.loop-low.high (omega arith) c.in-Equal.ensures.compared));
    }

pub returns-clause-found : goal.returns-clause-found
returns-clause-found c = (
  λ is. absurd (false≢true is),
  λ found. absurd
      (not_there c.args.self.now c.args.serial c.loop-low.low c.loop-low.high c.loop-low-test.false
      c.loop-low.invariant.between found),
)

pub returns-clause-searched : goal.returns-clause-searched
returns-clause-searched c =
    let low = c.places_of-low.result.0 in
    let high = c.places_of-low.result.1 in
    let none : c.loop-low.count + 0 ≡ c.loop-low.count = omega arith in
    record {
      low = low;
      high = high;
      range = c.places_of-low.ensures.range;
      halves = subst (λ (n : ℕ). Halving c.args.self.now c.args.serial low high n) none
          (c.loop-low.invariant.rest 0 (nothing c.loop-low.low c.loop-low.high c.loop-low-test.false));
    }
