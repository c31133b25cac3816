-- Parts of the octets that a cursor has remaining.
use Rattle.std.proofs.Common.{◌≡◌, ℕ, ◌+◌, ◌-◌, ◌≤◌, List, ◌++◌, length, take, drop, Some, slice_range, refl, sym, ap, ◌∙◌, arith}
use Rattle.std.proofs.lemmas.List.{length-append, take_at, drop_at, take-take}
use Rattle.std.proofs.lemmas.List.Edits.{length-between}
use Rattle.bytes.proofs.Ranges.{drop-slice_range}
use Rattle.rpki_der.specs.Place.{Place, remaining, MovesOn}
use Rattle.rpki_der.specs.Values.Reading.{value_at}
use Rattle.rpki_der.proofs.ValueReads.{value_parts}

-- a range that is two texts, cut between them
pub record IsCut (source : List ℕ) (from to : ℕ) (x y : List ℕ) : Type 0 where
  pub fits : from + length x + length y ≡ to
  pub front : slice_range source from (from + length x) ≡ x
  pub back : slice_range source (from + length x) to ≡ y

-- a part of a source that is two strings is cut between them
pub cut : (source : List ℕ) (from to : ℕ) (x y : List ℕ) → from ≤ to → to ≤ length source →
    slice_range source from to ≡ x ++ y → IsCut source from to x y
cut source from to x y a b e =
    let long : to - from ≡ length x + length y = omega (arith, length-between source from to, ap length e, length-append x y) in
    let k : from + length x - from ≡ length x = omega arith in
    record {
      fits = omega arith;
      front = rw k (sym (take-take (length x) (to - from) (drop from source) (omega arith)) ∙ ap (take (length x)) e ∙
          take_at x y (length x) refl);
      back = sym (drop-slice_range source from to (length x) (omega arith)) ∙ ap (drop (length x)) e ∙ drop_at x y (length x) refl;
    }

-- where the content of a value stands, and what follows it
pub record IsPlaced (p : Place) (c rest : List ℕ) : Type 0 where
  pub fits : p.from + length c + length rest ≤ p.to
  pub content : slice_range p.source (p.to - length rest - length c) (p.to - length rest) ≡ c
  pub after : slice_range p.source (p.to - length rest) p.to ≡ rest

-- where a value that was read lies in the source
pub placed : (t : ℕ) (p : Place) (c rest : List ℕ) → p.from ≤ p.to → p.to ≤ length p.source →
    value_at t (remaining p) ≡ Some (c, rest) → IsPlaced p c rest
placed t p c rest a b e =
    let v = value_parts t (remaining p) c rest e in
    let head = v.head in
    let one = cut p.source p.from p.to head (c ++ rest) a b v.whole in
    let two = cut p.source (p.from + length head) p.to c rest (omega (arith, one.fits)) b one.back in
    let at : p.to - length rest ≡ p.from + length head + length c = omega (arith, two.fits) in
    let begin : p.to - length rest - length c ≡ p.from + length head = omega (arith, two.fits) in
    record {
      fits = omega (arith, two.fits);
      content = rw (begin, at) two.front;
      after = rw at two.back;
    }

-- from a place to a later one
pub until_is : (p q : Place) → MovesOn p q → q.from ≤ q.to → q.to ≤ length q.source →
    slice_range p.source p.from q.from ≡ take (length (remaining p) - length (remaining q)) (remaining p)
until_is p q m a b =
    let long : length p.source ≡ length q.source = ap length (sym m.source) in
    let all : length (remaining p) ≡ p.to - p.from = omega (arith, long, m.to, m.from, length-between p.source p.from p.to) in
    let later : length (remaining q) ≡ q.to - q.from = omega (arith, length-between q.source q.from q.to) in
    let count : q.from - p.from ≡ length (remaining p) - length (remaining q) = omega (arith, all, later, m.to, m.from) in
    sym (take-take (q.from - p.from) (p.to - p.from) (drop p.from p.source) (omega (arith, m.to, m.from))) ∙
    ap (λ (n : ℕ). take n (remaining p)) count
