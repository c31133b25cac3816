-- Buckets of serial numbers: how many there are, and where they begin, as the loop over them finds it.
use Rattle.std.proofs.Common.{◌≡◌, ℕ, ◌+◌, ◌-◌, ◌*◌, ◌/◌, ◌^◌, ◌<◌, ◌≤◌, ◌⊎◌, min, List, [], ◌∷◌, ◌++◌, length}
use Rattle.std.proofs.Common.{get_or, refl, ap, ◌∙◌, inl, inr, arith, length-append}
use Rattle.std.proofs.Math.ListN.{get_or-append}
use Rattle.std.proofs.Math.Nat.{div-mul-le_self, lt-div-mul-add}
use Rattle.std.proofs.Math.Pow.{pow_mono}
use Rattle.std.proofs.Math.Seq.{get_or-append_seam}
use Rattle.std.proofs.lemmas.Bool.{cases_lt}
use Rattle.std.proofs.lemmas.Nat.{pow_pos, pow-add, shr_below, le-div, div_below}
use Rattle.rpki_crl.specs.SerialTables.{AreAscending}
use Rattle.rpki_crl.specs.SerialBuckets.{AreStarts, IsScale, IsStart, bucket_of, last_bucket}
use Rattle.rpki_crl.specs.SerialSearches.{IsRange}
use Rattle.rpki_crl.proofs.Halvings.{IsBetween, at_first}

-- the starts are those of buckets, and the numbers before i are in them
pub record AreBegun (base shift : ℕ) (xs starts : List ℕ) (i : ℕ) : Type 0 where
  pub known : AreStarts base shift starts xs
  pub before : (j : ℕ) → j < i → bucket_of base shift (get_or xs j 0) < length starts

-- a greater number isn't in an earlier bucket
pub bucket_grows : (base shift x y : ℕ) → x ≤ y → bucket_of base shift x ≤ bucket_of base shift y
bucket_grows base shift x y h =
    let whole = div-mul-le_self (x - base * 2 ^ 32) (2 ^ shift) in
    le-div (bucket_of base shift x) (y - base * 2 ^ 32) (2 ^ shift) (pow_pos shift) (omega (arith, whole))

-- a power of two by a count of leading zeros
pub power_below : (k zeros m n : ℕ) → zeros + m ≡ k → 2 ^ m ≤ n → 2 ^ (k - zeros) ≤ n
power_below k zeros m n e h = let same : k - zeros ≡ m = omega (arith, e) in rw same h

pub below_power : (k zeros m n : ℕ) → zeros + m ≡ k → n < 2 ^ m → n < 2 ^ (k - zeros)
below_power k zeros m n e h = let same : k - zeros ≡ m = omega (arith, e) in rw same h

-- half as many buckets as numbers, or fewer, where the shift leaves so many digits of the span
pub few_buckets : (span bits wanted shift count : ℕ) → span < 2 ^ bits → bits ≤ 160 → 2 ^ wanted ≤ count / 2 + 1 →
    shift ≡ min (bits - wanted) 159 → 0 < count → 2 * (span / 2 ^ shift) ≤ count + 1
few_buckets span bits wanted shift count below most few is some = elim (cases_lt 159 (bits - wanted)) [
  | inl far ↦
      let all : shift ≡ 159 = omega (arith, is) in
      let grow : 2 ^ bits ≤ 2 ^ 160 = pow_mono most in
      let two : span / 2 ^ 159 < 2 ^ 1 = shr_below span 1 159 (omega (arith, below, grow)) in
      rw all (omega (arith, two, some))
  | inr near ↦
      let grow : 2 ^ bits ≤ 2 ^ (wanted + shift) = pow_mono (omega (arith, is)) in
      let less : span / 2 ^ shift < 2 ^ wanted = shr_below span wanted shift (omega (arith, below, grow)) in
      omega (arith, less, few)
]

-- and an eighth as many, or more, where the shift isn't 0
pub many_buckets : (span bits wanted shift count : ℕ) → 2 ^ bits ≤ 2 * span + 1 → bits ≤ 160 →
    count / 4 < 2 ^ wanted → shift ≡ min (bits - wanted) 159 → (shift ≡ 0) ⊎ (count ≤ 8 * (span / 2 ^ shift + 1))
many_buckets span bits wanted shift count no_more most many is = elim (cases_lt 159 (bits - wanted)) [
  | inl far ↦
      let none : wanted ≡ 0 = omega (arith, far, most) in
      let one : 2 ^ wanted ≡ 1 = rw none refl in
      inr (omega (arith, many, one))
  | inr near ↦ elim (cases_lt wanted bits) [
    | inl less ↦
        let sum : bits ≡ wanted + shift = omega (arith, is, near, less) in
        let power : 2 ^ bits ≡ 2 ^ wanted * 2 ^ shift = ap (λ n. 2 ^ n) sum ∙ pow-add 2 wanted shift in
        let positive = pow_pos shift in
        let rest : span < span / 2 ^ shift * 2 ^ shift + 2 ^ shift = lt-div-mul-add positive in
        let high : 2 ^ wanted * 2 ^ shift / 2 ^ shift < 2 * (span / 2 ^ shift) + 2 =
        div_below (2 ^ wanted * 2 ^ shift) (2 ^ shift) (2 * (span / 2 ^ shift) + 2) positive
        (omega (arith, no_more, power, rest)) in
        let low : 2 ^ wanted ≤ 2 ^ wanted * 2 ^ shift / 2 ^ shift = le-div (2 ^ wanted) (2 ^ wanted * 2 ^ shift)
        (2 ^ shift) positive (omega arith) in
        inr (omega (arith, many, high, low))
    | inr more ↦ inl (omega (arith, is, more))
  ]
]

-- between the starts of two buckets
module _ (base shift : ℕ) (xs : List ℕ) (serial low high : ℕ) where
  bucket_between : IsStart base shift xs (bucket_of base shift serial) low →
      IsStart base shift xs (bucket_of base shift serial + 1) high → IsBetween xs serial low high
  bucket_between begins ends = record {
    order = elim (cases_lt high low) [
      | inl less ↦ let early = begins.before high less in
          let late = ends.after high (omega arith) (omega (arith, begins.inside)) in
          absurd (omega (arith, early, late))
      | inr more ↦ more
    ];
    inside = ends.inside;
    before = λ i h. elim (cases_lt (get_or xs i 0) serial) [
      | inl less ↦ less
      | inr more ↦ let early = begins.before i h in let grow = bucket_grows base shift serial (get_or xs i 0) more in
          absurd (omega (arith, early, grow))
    ];
    after = λ i h l. elim (cases_lt serial (get_or xs i 0)) [
      | inl less ↦ less
      | inr more ↦ let late = ends.after i h l in let grow = bucket_grows base shift (get_or xs i 0) serial more in
          absurd (omega (arith, late, grow))
    ];
  }

-- a serial can stand only in its range
pub range_between : (xs : List ℕ) (serial low high : ℕ) → IsRange xs serial low high → IsBetween xs serial low high
range_between xs serial low high range = elim range.places [
  | inl bucket ↦ bucket_between range.base range.shift xs serial low high bucket.begins bucket.ends
  | inr whole ↦ let all = at_first xs serial in rw (whole.from, whole.to) all
]

-- ascending numbers of which there are few buckets
module _ (base shift : ℕ) (xs : List ℕ) (ascending : AreAscending xs) (i : ℕ) (inside : i < length xs) where
  -- none is in a bucket behind the last one
  pub last_is_last : bucket_of base shift (get_or xs i 0) ≤ last_bucket base shift xs
  last_is_last = bucket_grows base shift (get_or xs i 0) (get_or xs (length xs - 1) 0)
      (ascending i (length xs - 1) (omega (arith, inside)) (omega (arith, inside)))

  -- each has a bucket
  pub in_scale : IsScale base shift xs → length xs < 2 ^ 64 →
      (get_or xs i 0 < base * 2 ^ 32) ⊎ (2 ^ 96 ≤ bucket_of base shift (get_or xs i 0)) → ⊥
  in_scale scale short outside = elim outside [
    | inl low ↦ let least = ascending 0 i (omega arith) inside in omega (arith, low, least, scale.base_is)
    | inr far ↦ omega (arith, far, last_is_last, scale.few, short)
  ]

  -- one start more is known: the number in place i is the first one of the bucket that is next
  pub one_begun : (starts : List ℕ) → AreBegun base shift xs starts i →
      length starts ≤ bucket_of base shift (get_or xs i 0) → AreBegun base shift xs (starts ++ i ∷ []) i
  one_begun starts begun next =
      let more : length (starts ++ i ∷ []) ≡ length starts + 1 = length-append starts (i ∷ []) in
      record {
        known = λ k h. elim (cases_lt k (length starts)) [
          | inl less ↦ rw (get_or-append starts (i ∷ []) 0 k less) (begun.known k less)
          | inr last ↦
              let same : k ≡ length starts = omega (arith, h, more, last) in
              rw (same, get_or-append_seam starts i [] 0) (record {
                inside = omega (arith, inside);
                before = begun.before;
                after = λ j p l. let grow = bucket_grows base shift (get_or xs i 0) (get_or xs j 0)
                    (ascending i j p l) in omega (arith, grow, next);
              })
        ];
        before = λ j h. let early = begun.before j h in omega (arith, early, more);
      }

  -- one number more is in a bucket with a start
  pub one_inside : (starts : List ℕ) → AreBegun base shift xs starts i →
      bucket_of base shift (get_or xs i 0) < length starts → AreBegun base shift xs starts (i + 1)
  one_inside starts begun last = record {
    known = begun.known;
    before = λ j h. elim (cases_lt j i) [
      | inl less ↦ begun.before j less
      | inr more ↦ let same : j ≡ i = omega (arith, h, more) in rw same last
    ];
  }
