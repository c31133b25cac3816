-- Steps of skipping.
use Rattle.std.proofs.Common.{◌≡◌, ◌≢◌, ℕ, zero, suc, ◌-◌, ◌/◌, ◌%◌, ◌<◌, Bool, true, false, cond, List, [], ◌∷◌}
use Rattle.std.proofs.Common.{length, Option, Some, None, refl, ap, ◌∙◌, arith}
use Rattle.std.proofs.lemmas.Bool.{eq-eqb, ne_eqb}
use Rattle.rpki_der.specs.Values.Reading.{value_at, ◌>>=◌}
use Rattle.rpki_der.specs.Sequences.Reading.{sequence_of, Shrinks}
use Rattle.rpki_der.specs.Skipping.Reading.{any_at, is_primitive, skip_within, skip_sequence_within}
use Rattle.rpki_der.proofs.Octets.{bind_some, some, both_are, nothing}
use Rattle.rpki_der.proofs.ValueReads.{value_shorter}

-- ---- what remains is less

-- reading any value uses octets up
pub any_shrinks : Shrinks any_at
any_shrinks = λ octets v rest e. shorter octets v rest e
  where
    shorter : (octets : List ℕ) (v : ℕ × List ℕ) (rest : List ℕ) → any_at octets ≡ Some (v, rest) → length rest < length octets
    shorter [] v rest e = nothing (v, rest) e
    shorter (tag ∷ bytes) v rest e =
        let a = bind_some (value_at tag (tag ∷ bytes)) (λ x. some {A = (ℕ × List ℕ) × List ℕ} ((tag, x.0), x.1)) (v, rest) e in
        let made : ℕ × List ℕ = (tag, a.0.0) in
        let less = value_shorter tag (tag ∷ bytes) a.0.0 a.0.1 a.1 in
        omega (arith, less, ap length (both_are (made, a.0.1) (v, rest) a.2).1)

-- the rest is that of the value
same_rest : {A : Type 0} (b : Bool) (r : Option A) (rest after : List ℕ) (u : Unit {0}) →
    cond b (some {A = Unit {0} × List ℕ} (tt, rest)) (r >>= λ x. some {A = Unit {0} × List ℕ} (tt, rest)) ≡
    some {A = Unit {0} × List ℕ} (u, after) → rest ≡ after
same_rest true r rest after u e = (both_are (tt, rest) (u, after) e).1
same_rest false (Some x) rest after u e = (both_are (tt, rest) (u, after) e).1
same_rest false None rest after u e = nothing (u, after) e

within_shorter : (d : ℕ) (octets : List ℕ) (u : Unit {0}) (rest : List ℕ) → skip_within d octets ≡ Some (u, rest) →
    length rest < length octets
unfolding skip_within
within_shorter zero octets u rest e =
    let (((tag, content), after), found, last) =
    bind_some (any_at octets) (λ v. cond (is_primitive v.0.0) (some {A = Unit {0} × List ℕ} (tt, v.1)) None)
    (u, rest) e in
    let none : Option ℕ = None in
    let same : after ≡ rest = same_rest (is_primitive tag) none after rest u last in
    omega (arith, ap length same, any_shrinks octets (tag, content) after found)
within_shorter (suc d) octets u rest e =
    let (((tag, content), after), found, last) =
    bind_some (any_at octets)
    (λ v. cond (is_primitive v.0.0) (some {A = Unit {0} × List ℕ} (tt, v.1))
    (sequence_of (skip_within d) v.0.1 >>= λ elements. some {A = Unit {0} × List ℕ} (tt, v.1))) (u, rest) e in
    let same : after ≡ rest = same_rest (is_primitive tag) (sequence_of (skip_within d) content) after rest u last in
    omega (arith, ap length same, any_shrinks octets (tag, content) after found)

-- skipping a value uses octets up
pub within_shrinks : (d : ℕ) → Shrinks (skip_within d)
within_shrinks d = within_shorter d

-- ---- one value

-- the octets begin with a value of this tag and content, and the rest follows
abbrev pub IsNext : List ℕ → ℕ → List ℕ → List ℕ → Type 0
IsNext octets tag content rest = any_at octets ≡ some {A = (ℕ × List ℕ) × List ℕ} ((tag, content), rest)

-- where no value stands, none is skipped
pub skips_none : (d : ℕ) (octets : List ℕ) → any_at octets ≡ None → skip_within d octets ≡ None
unfolding skip_within
skips_none zero octets e = rw e refl
skips_none (suc d) octets e = rw e refl

-- a primitive value is skipped at any depth
pub skips_primitive : (d : ℕ) (octets : List ℕ) (tag : ℕ) (content rest : List ℕ) → IsNext octets tag content rest →
    tag / 32 % 2 ≢ 1 → skip_within d octets ≡ some {A = Unit {0} × List ℕ} (tt, rest)
unfolding skip_within
skips_primitive zero octets tag content rest e p = let yes = eq-eqb (tag / 32 % 2) 0 (omega arith) in rw (e, yes) refl
skips_primitive (suc d) octets tag content rest e p = let yes = eq-eqb (tag / 32 % 2) 0 (omega arith) in rw (e, yes) refl

-- a constructed value isn't skipped at the depth 0
pub skips_too_deep : (octets : List ℕ) (tag : ℕ) (content rest : List ℕ) → IsNext octets tag content rest →
    tag / 32 % 2 ≡ 1 → skip_within 0 octets ≡ None
unfolding skip_within
skips_too_deep octets tag content rest e p = let no = ne_eqb (tag / 32 % 2) 0 (λ z. omega (arith, z)) in rw (e, no) refl

-- a constructed value is skipped where its content is, one level less deep
pub skips_constructed : (d : ℕ) (octets : List ℕ) (tag : ℕ) (content rest : List ℕ) → IsNext octets tag content rest → tag / 32 % 2 ≡ 1
    → skip_within (suc d) octets ≡ (skip_sequence_within d content >>= λ u. some {A = Unit {0} × List ℕ} (tt, rest))
unfolding skip_within
skips_constructed d octets tag content rest e p =
    let no = ne_eqb (tag / 32 % 2) 0 (λ z. omega (arith, z)) in
    rw (e, no) (again (sequence_of (skip_within d) content))
  where
    again : {A : Type 0} (r : Option A) → (r >>= λ x. some {A = Unit {0} × List ℕ} (tt, rest)) ≡
        ((r >>= λ x. some {A = Unit {0}} tt) >>= λ u. some {A = Unit {0} × List ℕ} (tt, rest))
    again (Some x) = refl
    again None = refl

-- a constructed value is skipped as its content is, at a number of levels that isn't 0
constructed_at : (levels : ℕ) (octets : List ℕ) (tag : ℕ) (content rest : List ℕ) → 0 < levels →
    IsNext octets tag content rest → tag / 32 % 2 ≡ 1
    → skip_within levels octets ≡ (skip_sequence_within (levels - 1) content >>= λ u. some {A = Unit {0} × List ℕ} (tt, rest))
constructed_at zero octets tag content rest some_level e p = absurd (omega arith)
constructed_at (suc d) octets tag content rest some_level e p =
    let less : suc d - 1 ≡ d = omega arith in
    rw less (skips_constructed d octets tag content rest e p)

-- a constructed value is skipped where its content was skipped
pub skips_inside : (levels : ℕ) (octets : List ℕ) (tag : ℕ) (content rest : List ℕ) → 0 < levels →
    IsNext octets tag content rest → tag / 32 % 2 ≡ 1 → skip_sequence_within (levels - 1) content ≡ Some tt
    → skip_within levels octets ≡ some {A = Unit {0} × List ℕ} (tt, rest)
skips_inside levels octets tag content rest some_level e p elements = constructed_at levels octets tag content rest
    some_level e p ∙ rw elements refl

-- a constructed value isn't skipped where its content wasn't
pub skips_rejected : (levels : ℕ) (octets : List ℕ) (tag : ℕ) (content rest : List ℕ) → 0 < levels →
    IsNext octets tag content rest → tag / 32 % 2 ≡ 1 → skip_sequence_within (levels - 1) content ≡ None →
    skip_within levels octets ≡ None
skips_rejected levels octets tag content rest some_level e p elements = constructed_at levels octets tag content rest
    some_level e p ∙ rw elements refl
