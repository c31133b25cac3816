use Rattle.std.proofs.Common.{arith}
use Rattle.std.proofs.lemmas.Bool.{false≢true}
use Rattle.std.proofs.lemmas.List.{length-map}
use Rattle.std.proofs.lemmas.List.Sorted.{Contains-permutation, IsPermutation-sym}
use Rattle.rpki_crl.specs.SerialTables.{serials_of}
use Rattle.rpki_c.specs.ListTables.{serials_in, entry_serial}
use Rattle.rpki_crl.proofs.Halvings.{go_up, go_down, not_there, there}
use Rattle.rpki_c.proofs.tables.has.Goals as goal

pub loop-low-init : goal.loop-low-init
loop-low-init c = record {
  inside = c.places_of-low.ensures.inside;
  between = λ up. record {
    order = c.places_of-low.ensures.order;
    inside = omega (arith, c.places_of-low.ensures.inside, length-map c.args.table.now entry_serial);
    before = c.places_of-low.ensures.before up;
    after = λ i from low. c.places_of-low.ensures.after up i from
        (omega (arith, low, length-map c.args.table.now entry_serial));
  };
}

pub loop-low-preserved-in-Less : goal.loop-low-preserved-in-Less
loop-low-preserved-in-Less c = record {
  inside = c.loop-low.invariant.inside;
  between = λ up. go_up (serials_in c.args.table.now) c.args.serial up c.loop-low.low _ c.loop-low.high
      (c.loop-low.invariant.between up) (omega arith) (omega arith) c.in-Less.ensures;
}

pub loop-low-preserved : goal.loop-low-preserved
loop-low-preserved c = record {
  inside = omega (arith, c.loop-low.invariant.inside);
  between = λ up. go_down (serials_in c.args.table.now) c.args.serial up c.loop-low.low _ c.loop-low.high
      (c.loop-low.invariant.between up) (omega arith) (omega arith) c.in-Greater.ensures;
}

pub returns-in-Equal : goal.returns-in-Equal
returns-in-Equal c = λ entries is.
    let xs = serials_in c.args.table.now in
    let found = there xs c.args.serial
    _ (omega (arith, c.loop-low.invariant.inside, length-map c.args.table.now entry_serial))
    c.in-Equal.ensures in (
      (λ yes. Contains-permutation xs (serials_of entries) c.args.serial
          (IsPermutation-sym (serials_of entries) xs is.serials_are) found),
      (λ some. cc),
    )

pub returns : goal.returns
returns c = λ entries is.
    let xs = serials_in c.args.table.now in
    let none = not_there xs c.args.serial c.loop-low.low c.loop-low.high (omega arith)
    (c.loop-low.invariant.between is.ascending) in (
      (λ yes. absurd (false≢true yes)),
      (λ some. absurd (none (Contains-permutation (serials_of entries) xs c.args.serial is.serials_are some))),
    )
