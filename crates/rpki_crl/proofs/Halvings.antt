-- A search that halves what remains.
use Rattle.std.specs.Prelude.{Contains}
use Rattle.std.proofs.Common.{◌≡◌, ℕ, zero, suc, ◌+◌, ◌/◌, ◌^◌, ◌<◌, ◌≤◌, List, length, get_or, sym, ◌∙◌, inl, inr, arith}
use Rattle.std.proofs.lemmas.Bool.{cases_lt}
use Rattle.std.proofs.lemmas.Grind.{get_or_default_zero}
use Rattle.std.proofs.lemmas.Int.Digits.{length-digits_of_step, length-digits_of-le}
use Rattle.rpki_crl.specs.SerialTables.{AreAscending, digits}

-- the serial can stand only from low to high: before are smaller numbers, after are greater ones
pub record IsBetween (xs : List ℕ) (serial low high : ℕ) : Type 0 where
  pub order : low ≤ high
  pub inside : high ≤ length xs
  pub before : (i : ℕ) → i < low → get_or xs i 0 < serial
  pub after : (i : ℕ) → high ≤ i → i < length xs → serial < get_or xs i 0

-- half of a number has one binary digit less
pub digits_step : (n : ℕ) → 0 < n → digits n ≡ digits (n / 2) + 1
digits_step n p = length-digits_of_step 2 n (omega arith) p

-- at most 64 digits
pub digits_below : (n : ℕ) → n < 2 ^ 64 → digits n ≤ 64
digits_below n h = length-digits_of-le 2 64 n (omega arith) h

-- more remains where the number is greater
digits_grow_by : (fuel m n : ℕ) → n ≤ fuel → m ≤ n → digits m ≤ digits n
digits_grow_by zero m n f h = let same : m ≡ n = omega arith in rw same (omega arith)
digits_grow_by (suc fuel) zero n f h = omega arith
digits_grow_by (suc fuel) (suc m) n f h =
    let half = digits_grow_by fuel (suc m / 2) (n / 2) (omega arith) (omega arith) in
    omega (arith, half, digits_step (suc m) (omega arith), digits_step n (omega arith))

-- a greater number doesn't have fewer binary digits
pub digits_grow : (m n : ℕ) → m ≤ n → digits m ≤ digits n
digits_grow m n h = digits_grow_by n m n (omega arith) h

-- what remains of the search between two places
module _ (xs : List ℕ) (serial : ℕ) where
  -- at first the serial is searched for between the ends of the table
  pub at_first : IsBetween xs serial 0 (length xs)
  at_first = record {
    order = omega arith;
    inside = omega arith;
    before = λ i h. absurd (omega arith);
    after =
        λ i h l. absurd (omega arith);
  }

  module _ (ascending : AreAscending xs) (low middle high : ℕ) (between : IsBetween xs serial low high)
      (p : low ≤ middle) (q : middle < high) where
    -- a serial above the middle one is searched for above it
    pub go_up : get_or xs middle 0 < serial → IsBetween xs serial (middle + 1) high
    go_up less = record {
      order = omega arith;
      inside = between.inside;
      before = λ i h. let up = ascending i middle (omega arith) (omega (arith, between.inside)) in omega (arith, up, less);
      after = between.after;
    }

    -- a serial below the middle one is searched for below it
    pub go_down : serial < get_or xs middle 0 → IsBetween xs serial low middle
    go_down greater = record {
      order = p;
      inside = omega (arith, between.inside);
      before = between.before;
      after = λ i h l. let up = ascending middle i h l in omega (arith, up, greater);
    }

  -- nothing remains
  pub not_there : (low : ℕ) (high : ℕ) → high ≤ low → IsBetween xs serial low high → Contains xs serial → ⊥
  not_there low high e between found =
      let at = sym (get_or_default_zero xs found.0 serial found.1) ∙ found.2 in
      elim (cases_lt found.0 low) [
        | inl below ↦ let less = between.before found.0 below in omega (arith, at, less)
        | inr above ↦ let less = between.after found.0 (omega arith) found.1 in omega (arith, at, less)
      ]

  -- it stands there
  pub there : (middle : ℕ) → middle < length xs → get_or xs middle 0 ≡ serial → Contains xs serial
  there middle p e = (middle, p, get_or_default_zero xs middle serial p ∙ e)
