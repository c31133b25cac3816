-- Numbers of blocks and of chains; a set has one chain.
use Rattle.std.proofs.Common.{◌≡◌, ℕ, ◌+◌, ◌<◌, ◌≤◌, ◌⊎◌, true, List, [], ◌∷◌, refl, sym, ◌∙◌, arith, inl, inr}
use Rattle.std.proofs.lemmas.Bool.{cases_lt, leb-true, le-leb, or_cases, or_left, or_right, and_parts, and_from}
use Rattle.rpki_blocks.specs.Sets.{Block, is_within, is_in, IsChain, AreUpTo, HaveSameNumbers, AreIn}

-- a number of the first block is in the list
pub in_head : (n : ℕ) (b : Block) (bs : List Block) → b.min ≤ n → n ≤ b.max → is_in n (b ∷ bs) ≡ true
in_head n b bs low high = or_left _ _ (and_from _ _ (le-leb b.min n low) (le-leb n b.max high))

-- a number of the other blocks is in the list
pub in_tail : (n : ℕ) (b : Block) (bs : List Block) → is_in n bs ≡ true → is_in n (b ∷ bs) ≡ true
in_tail n b bs h = or_right (is_within n b) _ h

-- a number of a list is in the first block or in the others
pub in_cases : (n : ℕ) (b : Block) (bs : List Block) → is_in n (b ∷ bs) ≡ true → ((b.min ≤ n) × (n ≤ b.max)) ⊎ (is_in n bs ≡ true)
in_cases n b bs h =
    elim (or_cases (is_within n b) _ h) [
      | inl here ↦ let r = and_parts _ _ here in inl (leb-true b.min n r.0, leb-true n b.max r.1)
      | inr later ↦ inr later
    ]

-- the first block of a chain is in order
pub chain_head : (b : Block) (bs : List Block) → IsChain (b ∷ bs) → b.min ≤ b.max
chain_head b [] h = h
chain_head b (c ∷ bs) h = h.0

-- a chain without its first block is a chain
pub chain_tail : (b : Block) (bs : List Block) → IsChain (b ∷ bs) → IsChain bs
chain_tail b [] h = tt
chain_tail b (c ∷ bs) h = h.2

-- a number of the later blocks lies beyond the first one and isn't adjacent
pub beyond : (n : ℕ) (b : Block) (bs : List Block) → IsChain (b ∷ bs) → is_in n bs ≡ true → b.max + 1 < n
beyond n b [] h i = absurd cc
beyond n b (c ∷ bs) h i =
    elim (in_cases n c bs i) [
      | inl here ↦ omega (arith, here.0, h.1)
      | inr later ↦ omega (arith, beyond n c bs h.2 later, h.1, chain_head c bs h.2)
    ]

-- a number of a chain is at least its lower end
pub at_least : (n : ℕ) (b : Block) (bs : List Block) → IsChain (b ∷ bs) → is_in n (b ∷ bs) ≡ true → b.min ≤ n
at_least n b bs h i =
    elim (in_cases n b bs i) [
      | inl here ↦ here.0
      | inr later ↦ omega (arith, beyond n b bs h later, chain_head b bs h)
    ]

-- the numbers of blocks that go up to the greatest are at most the greatest
pub in_up_to : (greatest n : ℕ) (bs : List Block) → AreUpTo greatest bs → is_in n bs ≡ true → n ≤ greatest
in_up_to greatest n [] h i = absurd cc
in_up_to greatest n (b ∷ bs) h i =
    elim (in_cases n b bs i) [
      | inl here ↦ omega (arith, here.1, h.0)
      | inr later ↦ in_up_to greatest n bs h.1 later
    ]

-- a chain whose numbers are up to the greatest has blocks up to it
pub up_to_by_numbers : (greatest : ℕ) (bs : List Block) → IsChain bs → ((n : ℕ) → is_in n bs ≡ true → n ≤ greatest) → AreUpTo greatest bs
up_to_by_numbers greatest [] p h = tt
up_to_by_numbers greatest (b ∷ bs) p h = (
  h b.max (in_head b.max b bs (chain_head b bs p) (omega arith)),
  up_to_by_numbers greatest bs (chain_tail b bs p) (λ n i. h n (in_tail n b bs i)),
)

-- the first block of a chain inside another ends no later than the other's first, if it begins no
-- later
pub up_to : (b c : Block) (bs cs : List Block) → IsChain (b ∷ bs) → IsChain (c ∷ cs) → AreIn (b ∷ bs) (c ∷ cs) →
    b.min ≤ c.min → b.max ≤ c.max
up_to b c bs cs p q f low =
    elim (cases_lt c.max b.max) [
      | inl more ↦
          elim (in_cases (c.max + 1) c cs (f (c.max + 1) (in_head (c.max + 1) b bs (omega (arith, chain_head c cs q)) (omega arith)))) [
            | inl here ↦ absurd (omega (arith, here.1))
            | inr later ↦ absurd (omega (arith, beyond (c.max + 1) c cs q later))
          ]
      | inr le ↦ le
    ]

-- a chain inside another stays so without the first blocks, where these end together
pub tails_in : (b c : Block) (bs cs : List Block) → IsChain (b ∷ bs) → AreIn (b ∷ bs) (c ∷ cs) → c.max ≡ b.max → AreIn bs cs
tails_in b c bs cs p f e n i =
    elim (in_cases n c cs (f n (in_tail n b bs i))) [
      | inl here ↦ absurd (omega (arith, here.1, beyond n b bs p i))
      | inr later ↦ later
    ]

-- chains that are inside each other are equal
pub chain_one : (bs cs : List Block) → IsChain bs → IsChain cs → AreIn bs cs → AreIn cs bs → bs ≡ cs
chain_one [] [] p q f g = refl
chain_one [] (c ∷ cs) p q f g = let no : is_in c.min [] ≡ true = g c.min (in_head c.min c cs (omega arith) (chain_head c cs q)) in absurd cc
chain_one (b ∷ bs) [] p q f g = let no : is_in b.min [] ≡ true = f b.min (in_head b.min b bs (omega arith) (chain_head b bs p)) in absurd cc
chain_one (b ∷ bs) (c ∷ cs) p q f g =
    let low : c.min ≤ b.min = at_least b.min c cs q (f b.min (in_head b.min b bs (omega arith) (chain_head b bs p))) in
    let high : b.min ≤ c.min = at_least c.min b bs p (g c.min (in_head c.min c cs (omega arith) (chain_head c cs q))) in
    let upper : b.max ≤ c.max = up_to b c bs cs p q f high in
    let lower : c.max ≤ b.max = up_to c b cs bs q p g low in
    let min : b.min ≡ c.min = omega arith in
    let max : b.max ≡ c.max = omega arith in
    let rest = chain_one bs cs (chain_tail b bs p) (chain_tail c cs q) (tails_in b c bs cs p f (sym max)) (tails_in c b cs bs q g max) in
    λ i. (record { min = min i; max = max i }) ∷ rest i

-- chains with the same numbers are equal
pub one_chain : (bs cs : List Block) → IsChain bs → IsChain cs → HaveSameNumbers bs cs → bs ≡ cs
one_chain bs cs p q e = chain_one bs cs p q (λ n i. sym (e n) ∙ i) (λ n i. e n ∙ i)
