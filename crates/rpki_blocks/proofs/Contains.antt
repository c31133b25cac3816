-- Where a number stands in a chain.
use Rattle.std.proofs.Common.{◌≡◌, ℕ, ◌+◌, ◌<◌, ◌≤◌, ◌↔◌, Bool, true, false, not, nat_lt, List, [], ◌∷◌, length}
use Rattle.std.proofs.Common.{get_or, drop, zero, suc, refl, sym, ap, ◌∙◌, arith, inl, inr, add-one}
use Rattle.std.specs.List.Sorted.{IsNonDecreasingBy}
use Rattle.std.proofs.lemmas.List.{drop_more, drop_all}
use Rattle.std.proofs.lemmas.List.Sorted.{IsNonDecreasingBy-from_all_adjacent}
use Rattle.std.proofs.lemmas.Bool.{cases_lt, ltb-true, ltb-false, lt-ltb, le-ltb, lt-leb, and_right, false_from_ne_true, ltb_from_iff}
use Rattle.rpki_blocks.specs.Sets.{Block, is_within, is_in, IsChain}
use Rattle.rpki_blocks.proofs.Sets.{in_head, at_least, chain_tail, chain_head}

-- a number above a block is in the list where it is in the blocks after it
pub not_within_above : (n : ℕ) (b : Block) (bs : List Block) → b.max < n → is_in n (b ∷ bs) ≡ is_in n bs
not_within_above n b bs h = let e : is_within n b ≡ false = and_right _ _ (lt-leb n b.max h) in rw e

-- a number above the first blocks is in the list where it is in the others
pub skips : (n : ℕ) (bs : List Block) (i : ℕ) → ((k : ℕ) (d : Block) → k < i → (get_or bs k d).max < n) → is_in n (drop i bs) ≡ is_in n bs
skips n bs zero h = refl
skips n [] (suc i) h = refl
skips n (b ∷ bs) (suc i) h = skips n bs i (λ k d l. h (suc k) d (omega arith)) ∙ sym (not_within_above n b bs (h 0 b (omega arith)))

-- a chain without its first blocks is a chain
pub chain_drop : (i : ℕ) (bs : List Block) → IsChain bs → IsChain (drop i bs)
chain_drop zero bs h = h
chain_drop (suc i) [] h = tt
chain_drop (suc i) (b ∷ bs) h = chain_drop i bs (chain_tail b bs h)

rising_steps : (bs : List Block) → IsChain bs → (k : ℕ) (d : Block) → suc k < length bs → (get_or bs k d).max ≤ (get_or bs (suc k) d).max
rising_steps [] h k d l = absurd (omega arith)
rising_steps (b ∷ []) h k d l = absurd (omega arith)
rising_steps (b ∷ c ∷ bs) h zero d l = omega (arith, h.1, chain_head c bs h.2)
rising_steps (b ∷ c ∷ bs) h (suc k) d l = rising_steps (c ∷ bs) h.2 k d (omega arith)

-- the upper ends of a chain ascend
pub rising : (bs : List Block) → IsChain bs → IsNonDecreasingBy (λ b. b.max) bs
rising bs h = IsNonDecreasingBy-from_all_adjacent (λ b. b.max) bs (λ k d l. rw add-one (rising_steps bs h k d (omega arith)))

-- the first block of a chain whose upper end is not below n decides
pub in_first : (n : ℕ) (b : Block) (bs : List Block) → IsChain (b ∷ bs) → n ≤ b.max → is_in n (b ∷ bs) ≡ not (nat_lt n b.min)
in_first n b bs h l =
    elim (cases_lt n b.min) [
      | inl below ↦ rw (lt-ltb n b.min below) (false_from_ne_true _ (λ i. let low = at_least n b bs h i in omega arith))
      | inr above ↦ rw (le-ltb n b.min above) (in_head n b bs above l)
    ]

-- a number is in a chain where it is in the first block that doesn't end below it
pub contains_at : (n : ℕ) (bs : List Block) (i : ℕ) (b : Block) (t : Bool) → IsChain bs →
    ((k : ℕ) (d : Block) → 0 ≤ k → k < i → nat_lt (get_or bs k d).max n ≡ true) →
    ((k : ℕ) (d : Block) → i ≤ k → k < length bs → nat_lt (get_or bs k d).max n ≡ false) → i < length bs →
    b ≡ get_or bs i b → ((t ≡ true) ↔ (n < b.min)) → not t ≡ is_in n bs
contains_at n bs i b t chain low high l is e =
    let skip = skips n bs i (λ k d m. ltb-true _ n (low k d (omega arith) m)) in
    let split = drop_more bs i b l in
    let whole : IsChain (b ∷ drop (i + 1) bs) = let P : List Block → Type 0 = λ v. IsChain v in
    rw is (rw (← split) (chain_drop i bs chain)) in
    let within : n ≤ b.max = rw is (ltb-false _ n (high i b (omega arith) l)) in
    ap not (ltb_from_iff e) ∙ sym (in_first n b (drop (i + 1) bs) whole within) ∙
    ap (λ v. is_in n (v ∷ drop (i + 1) bs)) is ∙ ap (is_in n) (sym split) ∙ skip

-- a number above all blocks is in none
pub contains_past : (n : ℕ) (bs : List Block) (i : ℕ) →
    ((k : ℕ) (d : Block) → 0 ≤ k → k < i → nat_lt (get_or bs k d).max n ≡ true) → length bs ≤ i → is_in n bs ≡ false
contains_past n bs i low l = sym (skips n bs i (λ k d m. ltb-true _ n (low k d (omega arith) m))) ∙ ap (is_in n) (drop_all i bs l)
