-- Blocks in any order have one chain.
use Rattle.std.proofs.Common.{◌≡◌, ℕ, ◌+◌, ◌<◌, ◌≤◌, ltb, min, max, true, List, [], ◌∷◌, ◌++◌, Option, Some, None}
use Rattle.std.proofs.Common.{refl, sym, ap, ◌∙◌, arith, inl, inr}
use Rattle.std.proofs.lemmas.Bool.{cases_Bool, cases_lt, ltb-true, ltb-false}
use Rattle.std.specs.Cmp.{both_ways}
use Rattle.rpki_der.specs.Sequences.Reading.{sequence_of}
use Rattle.rpki_blocks.specs.Sets.{Block, is_in, IsChain, HaveSameNumbers}
use Rattle.rpki_blocks.specs.Resources.{Resources, listed}
use Rattle.rpki_blocks.specs.Unions.{IsUnion}
use Rattle.rpki_blocks.specs.Unions.Reading.{added, merged, union_of}
use Rattle.rpki_blocks.proofs.ChainWalks.{in_append_cases, in_append_left, in_append_right}
use Rattle.rpki_blocks.proofs.Sets.{in_head, in_tail, in_cases, chain_head, chain_tail, one_chain}

-- the first block begins past this number
abbrev IsAbove : ℕ → List Block → Type 0
IsAbove low [] = Unit {0}
IsAbove low (b ∷ bs) = low < b.min

chain_from : (b : Block) (bs : List Block) → b.min ≤ b.max → IsAbove (b.max + 1) bs → IsChain bs → IsChain (b ∷ bs)
chain_from b [] some above h = some
chain_from b (c ∷ bs) some above h = (some, above, h)

rest_above : (low : ℕ) (b : Block) (bs : List Block) → low < b.min → IsChain (b ∷ bs) → IsAbove low bs
rest_above low b [] l h = tt
rest_above low b (c ∷ bs) l h = omega (arith, h.0, h.1)

abbrev joined : Block → Block → Block
joined b c = record { min = min b.min c.min; max = max b.max c.max }

added_above : (low : ℕ) (b : Block) (cs : List Block) → low < b.min → IsAbove low cs → IsChain cs → IsAbove low (added b cs)
added_above low b [] l above h = l
added_above low b (c ∷ cs) l above h =
    elim (cases_Bool (ltb (b.max + 1) c.min)) [
      | inl y ↦ rw y l
      | inr n ↦
          elim (cases_Bool (ltb (c.max + 1) b.min)) [
            | inl y ↦ rw (n, y) above
            | inr m ↦ rw (n, m) (added_above low (joined b c) cs (omega arith) (rest_above low c cs above h) (chain_tail c cs h))
          ]
    ]

added_chain : (b : Block) (cs : List Block) → b.min ≤ b.max → IsChain cs → IsChain (added b cs)
added_chain b [] some h = some
added_chain b (c ∷ cs) some h =
    let more = chain_head c cs h in
    elim (cases_Bool (ltb (b.max + 1) c.min)) [
      | inl y ↦ rw y (some, ltb-true _ _ y, h)
      | inr n ↦
          elim (cases_Bool (ltb (c.max + 1) b.min)) [
            | inl y ↦ rw (n, y) (chain_from c (added b cs) more
                (added_above (c.max + 1) b cs (ltb-true _ _ y) (after c cs h) (chain_tail c cs h))
                (added_chain b cs some (chain_tail c cs h)))
            | inr m ↦ rw (n, m) (added_chain (joined b c) cs (omega arith) (chain_tail c cs h))
          ]
    ]
  where
    after : (c : Block) (cs : List Block) → IsChain (c ∷ cs) → IsAbove (c.max + 1) cs
    after c [] h = tt
    after c (d ∷ cs) h = h.1

-- two blocks that touch, and a number of one of them
in_joined : (n : ℕ) (b c : Block) (cs : List Block) → c.min ≤ b.max + 1 → b.min ≤ c.max + 1 →
    is_in n (joined b c ∷ cs) ≡ true → is_in n (b ∷ c ∷ cs) ≡ true
in_joined n b c cs p q h =
    elim (in_cases n (joined b c) cs h) [
      | inl here ↦
          let low = here.0 in
          let high = here.1 in
          elim (cases_lt n b.min) [
            | inl before ↦ in_tail n b (c ∷ cs) (in_head n c cs (omega arith) (omega arith))
            | inr from ↦
                elim (cases_lt b.max n) [
                  | inl past ↦ in_tail n b (c ∷ cs) (in_head n c cs (omega arith) (omega arith))
                  | inr to ↦ in_head n b (c ∷ cs) from to
                ]
          ]
      | inr later ↦ in_tail n b (c ∷ cs) (in_tail n c cs later)
    ]

joined_in : (n : ℕ) (b c : Block) (cs : List Block) → is_in n (b ∷ c ∷ cs) ≡ true → is_in n (joined b c ∷ cs) ≡ true
joined_in n b c cs h =
    elim (in_cases n b (c ∷ cs) h) [
      | inl here ↦ let low = here.0 in let high = here.1 in in_head n (joined b c) cs (omega arith) (omega arith)
      | inr later ↦
          elim (in_cases n c cs later) [
            | inl there ↦ let low = there.0 in let high = there.1 in in_head n (joined b c) cs (omega arith) (omega arith)
            | inr rest ↦ in_tail n (joined b c) cs rest
          ]
    ]

swapped : (n : ℕ) (b c : Block) (cs : List Block) → is_in n (b ∷ c ∷ cs) ≡ true → is_in n (c ∷ b ∷ cs) ≡ true
swapped n b c cs h =
    elim (in_cases n b (c ∷ cs) h) [
      | inl here ↦ in_tail n c (b ∷ cs) (in_head n b cs here.0 here.1)
      | inr later ↦
          elim (in_cases n c cs later) [
            | inl there ↦ in_head n c (b ∷ cs) there.0 there.1
            | inr rest ↦ in_tail n c (b ∷ cs) (in_tail n b cs rest)
          ]
    ]

under : (n : ℕ) (c : Block) (bs cs : List Block) → (is_in n bs ≡ true → is_in n cs ≡ true) → is_in n (c ∷ bs) ≡ true →
    is_in n (c ∷ cs) ≡ true
under n c bs cs f h = elim (in_cases n c bs h) [ inl here ↦ in_head n c cs here.0 here.1 | inr later ↦ in_tail n c cs (f later) ]

added_in : (n : ℕ) (b : Block) (cs : List Block) → is_in n (added b cs) ≡ true → is_in n (b ∷ cs) ≡ true
added_in n b [] h = h
added_in n b (c ∷ cs) h =
    elim (cases_Bool (ltb (b.max + 1) c.min)) [
      | inl y ↦ rw y at h
      | inr k ↦
          elim (cases_Bool (ltb (c.max + 1) b.min)) [
            | inl y ↦ swapped n c b cs (under n c (added b cs) (b ∷ cs) (added_in n b cs) (rw (k, y) at h))
            | inr m ↦ in_joined n b c cs (ltb-false _ _ k) (ltb-false _ _ m) (added_in n (joined b c) cs (rw (k, m) at h))
          ]
    ]

in_added : (n : ℕ) (b : Block) (cs : List Block) → is_in n (b ∷ cs) ≡ true → is_in n (added b cs) ≡ true
in_added n b [] h = h
in_added n b (c ∷ cs) h =
    elim (cases_Bool (ltb (b.max + 1) c.min)) [
      | inl y ↦ rw y h
      | inr k ↦
          elim (cases_Bool (ltb (c.max + 1) b.min)) [
            | inl y ↦ rw (k, y) (under n c (b ∷ cs) (added b cs) (in_added n b cs) (swapped n b c cs h))
            | inr m ↦ rw (k, m) (in_added n (joined b c) cs (joined_in n b c cs h))
          ]
    ]

-- merged blocks are a chain
pub merged_chain : (bs : List Block) → IsChain (merged bs)
unfolding merged
merged_chain [] = tt
merged_chain (b ∷ bs) =
    elim (cases_Bool (ltb b.max b.min)) [
      | inl y ↦ rw y (merged_chain bs)
      | inr n ↦ rw n (added_chain b (merged bs) (ltb-false _ _ n) (merged_chain bs))
    ]

merged_in : (n : ℕ) (bs : List Block) → is_in n (merged bs) ≡ true → is_in n bs ≡ true
unfolding merged
merged_in n [] h = h
merged_in n (b ∷ bs) h =
    elim (cases_Bool (ltb b.max b.min)) [
      | inl y ↦ in_tail n b bs (merged_in n bs (rw y at h))
      | inr k ↦ under n b (merged bs) bs (merged_in n bs) (added_in n b (merged bs) (rw k at h))
    ]

in_merged : (n : ℕ) (bs : List Block) → is_in n bs ≡ true → is_in n (merged bs) ≡ true
unfolding merged
in_merged n [] h = h
in_merged n (b ∷ bs) h =
    elim (cases_Bool (ltb b.max b.min)) [
      | inl y ↦
          elim (in_cases n b bs h) [
            | inl here ↦ let low = here.0 in let high = here.1 in let less = ltb-true _ _ y in absurd (omega arith)
            | inr later ↦ rw y (in_merged n bs later)
          ]
      | inr k ↦ rw k (in_added n b (merged bs) (under n b bs (merged bs) (in_merged n bs) h))
    ]

-- merged blocks have the numbers of the blocks
pub merged_same : (bs : List Block) → HaveSameNumbers (merged bs) bs
merged_same bs n = both_ways _ _ (merged_in n bs) (in_merged n bs)

-- the chain of a set
pub chain_is_merged : (chain bs : List Block) → IsChain chain → HaveSameNumbers chain bs → chain ≡ merged bs
chain_is_merged chain bs p e = one_chain chain (merged bs) p (merged_chain bs) (λ n. e n ∙ sym (merged_same bs n))

-- merged blocks, listed, are the union
pub is_union : (bs : List Block) → IsUnion bs (listed (merged bs))
is_union bs = record { chain = merged bs; is_chain = merged_chain bs; same = merged_same bs; is = refl }

-- the union is the merged blocks, listed
pub union_is : (bs : List Block) (r : Resources) → IsUnion bs r → r ≡ listed (merged bs)
union_is bs r u = u.is ∙ ap listed (chain_is_merged u.chain bs u.is_chain u.same)

-- what a chain makes of blocks
pub listed_merged : (chain bs : List Block) (r : Resources) → IsChain chain → HaveSameNumbers chain bs →
    r ≡ listed chain → listed (merged bs) ≡ r
listed_merged chain bs r p e is = ap listed (sym (chain_is_merged chain bs p e)) ∙ sym is

-- ---- blocks that were merged while a sequence was read

-- a block more keeps numbers the same
pub same_more : (bs cs : List Block) (b : Block) → HaveSameNumbers bs cs → HaveSameNumbers (bs ++ b ∷ []) (cs ++ b ∷ [])
same_more bs cs b e n = both_ways _ _ (more bs cs (λ i. sym (e n) ∙ i)) (more cs bs (λ i. e n ∙ i))
  where
    more : (xs ys : List Block) → (is_in n xs ≡ true → is_in n ys ≡ true) → is_in n (xs ++ b ∷ []) ≡ true → is_in n (ys ++ b ∷ []) ≡ true
    more xs ys f h =
        elim (in_append_cases n xs (b ∷ []) h) [
          | inl before ↦ in_append_left n ys (b ∷ []) (f before)
          | inr here ↦ in_append_right n ys (b ∷ []) here
        ]

-- blocks with the same numbers are merged to one chain
pub merged_one : (bs cs : List Block) → HaveSameNumbers bs cs → merged bs ≡ merged cs
merged_one bs cs e = one_chain (merged bs) (merged cs) (merged_chain bs) (merged_chain cs)
    (λ n. merged_same bs n ∙ e n ∙ sym (merged_same cs n))

module _ (element : List ℕ → Option (Block × List ℕ)) (octets : List ℕ) where
  -- the union of a sequence is that of blocks with its elements' numbers
  pub union_same : (elements blocks : List Block) → sequence_of element octets ≡ Some elements →
      HaveSameNumbers blocks elements → union_of element octets ≡ Some (listed (merged blocks))
  union_same elements blocks sequence_is same =
      rw sequence_is (ap (λ (bs : List Block). Some (listed bs)) (merged_one elements blocks (λ n. sym (same n))))

  -- what is no sequence has no union
  pub union_none : sequence_of element octets ≡ None → union_of element octets ≡ None
  union_none none = rw none refl
