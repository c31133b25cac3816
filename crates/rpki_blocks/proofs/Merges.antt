-- Blocks in order, merged from the left.
use Rattle.std.proofs.Common.{◌≡◌, ℕ, ◌+◌, ◌<◌, ◌≤◌, Bool, true, false, List, [], ◌∷◌, ◌++◌, length, get_or, take}
use Rattle.std.proofs.Common.{drop, set, suc, subst, refl, sym, ap, ◌∙◌, arith, inl, inr, append_assoc}
use Rattle.std.specs.Prelude.{◌==◌}
use Rattle.std.specs.List.Sorted.{IsNonDecreasingBy, IsPermutation}
use Rattle.std.proofs.lemmas.Bool.{cases_lt, eqb-true}
use Rattle.std.proofs.lemmas.List.{drop_all, take_all, take_more, take_more_set, drop-set-lt}
use Rattle.std.proofs.lemmas.List.Sorted.{list_any-IsPermutation}
use Rattle.rpki_blocks.specs.Sets.{Block, is_within, is_in, IsChain, AreUpTo, IsSet, HaveSameNumbers}
use Rattle.rpki_blocks.specs.Pairs.{IsJoin}
use Rattle.rpki_blocks.proofs.Sets.{in_head, in_tail, in_cases}
use Rattle.rpki_blocks.proofs.ChainWalks.{in_append_cases, in_append_left, in_append_right, in_one, drop_read}

-- the last block of a chain may be replaced by one with its lower end
pub replaced : (bs : List Block) (a b : Block) → IsChain (bs ++ a ∷ []) → b.min ≡ a.min → b.min ≤ b.max → IsChain (bs ++ b ∷ [])
replaced [] a b h e l = l
replaced (x ∷ []) a b h e l = (h.0, omega (arith, h.1), l)
replaced (x ∷ c ∷ bs) a b h e l = (h.0, h.1, replaced (c ∷ bs) a b h.2 e l)

-- a chain goes on with a block that isn't adjacent
pub followed : (bs : List Block) (a b : Block) → IsChain (bs ++ a ∷ []) → a.max + 1 < b.min → b.min ≤ b.max →
    IsChain ((bs ++ a ∷ []) ++ b ∷ [])
followed [] a b h l m = (h, l, m)
followed (x ∷ []) a b h l m = (h.0, h.1, (h.2, l, m))
followed (x ∷ c ∷ bs) a b h l m = (h.0, h.1, followed (c ∷ bs) a b h.2 l m)

-- a list up to the greatest number goes on with a block up to it
pub small_more : (g : ℕ) (bs : List Block) (b : Block) → AreUpTo g bs → b.max ≤ g → AreUpTo g (bs ++ b ∷ [])
small_more g [] b h l = (l, tt)
small_more g (x ∷ bs) b h l = (h.0, small_more g bs b h.1 l)

small_front : (g : ℕ) (bs : List Block) (a : Block) → AreUpTo g (bs ++ a ∷ []) → AreUpTo g bs
small_front g [] a h = tt
small_front g (x ∷ bs) a h = (h.0, small_front g bs a h.1)

small_last : (g : ℕ) (bs : List Block) (a : Block) → AreUpTo g (bs ++ a ∷ []) → a.max ≤ g
small_last g [] a h = h.0
small_last g (x ∷ bs) a h = small_last g bs a h.1

-- the lower ends do not fall, and begin at low or above
abbrev pub IsRising : ℕ → List Block → Type 0
IsRising low [] = Unit {0}
IsRising low (b ∷ bs) = (low ≤ b.min) × IsRising b.min bs

rising_from : (low high : ℕ) (bs : List Block) → low ≤ high → IsRising high bs → IsRising low bs
rising_from low high [] l h = tt
rising_from low high (b ∷ bs) l h = (omega (arith, h.0), h.1)

rising_sorted : (b : Block) (bs : List Block) → IsNonDecreasingBy (λ x. x.min) (b ∷ bs) → IsRising b.min bs
rising_sorted b [] h = tt
rising_sorted b (c ∷ bs) h = (
  h 0 1 b (omega arith) (omega arith),
  rising_sorted c bs (λ i j d l m. h (suc i) (suc j) d (omega arith) (omega arith)),
)

-- how far a sorted list is merged: the blocks done, the last one, and the rest
pub record IsMerged (g : ℕ) (all done : List Block) (last : Block) (rest : List Block) : Type 0 where
  pub set : IsSet g (done ++ last ∷ [])
  pub rising : IsRising last.min rest
  pub to : (n : ℕ) → is_in n all ≡ true → is_in n ((done ++ last ∷ []) ++ rest) ≡ true
  pub back : (n : ℕ) → is_in n ((done ++ last ∷ []) ++ rest) ≡ true → is_in n all ≡ true

-- merging starts with the first block
pub merged_start : (g : ℕ) (b : Block) (bs : List Block) → IsNonDecreasingBy (λ x. x.min) (b ∷ bs) → b.min ≤ b.max →
    b.max ≤ g → IsMerged g (b ∷ bs) [] b bs
merged_start g b bs h l m =
    record {
      set = record { chain = l; small = (m, tt) };
      rising = rising_sorted b bs h;
      to = λ n i. i;
      back =
          λ n i. i;
    }

-- a block that touches the last one is joined to it
pub merged_join : (g : ℕ) (all done : List Block) (last b j : Block) (rest : List Block) →
    IsMerged g all done last (b ∷ rest) → b.min ≤ last.max + 1 → b.min ≤ b.max → b.max ≤ g → IsJoin last b j →
    IsMerged g all done j rest
merged_join g all done last b j rest m near some small join =
    record {
      set = record {
        chain = replaced done last j m.set.chain join.lower join.some;
        small =
            small_more g done j (small_front g done last m.set.small)
            (omega (arith, small_last g done last m.set.small, small, join.upper));
      };
      rising = rising_from j.min b.min rest (omega (arith, m.rising.0, join.lower)) m.rising.1;
      to = λ n i.
          elim (in_append_cases n (done ++ last ∷ []) (b ∷ rest) (m.to n i)) [
            | inl before ↦
                elim (in_append_cases n done (last ∷ []) before) [
                  | inl early ↦ in_append_left n (done ++ j ∷ []) rest (in_append_left n done (j ∷ []) early)
                  | inr here ↦ let h = in_one n last here in
                      in_append_left n (done ++ j ∷ []) rest
                      (in_append_right n done (j ∷ [])
                      (in_head n j [] (omega (arith, h.0, join.lower)) (omega (arith, h.1, join.upper))))
                ]
            | inr after ↦
                elim (in_cases n b rest after) [
                  | inl here ↦ in_append_left n (done ++ j ∷ []) rest
                      (in_append_right n done (j ∷ [])
                      (in_head n j [] (omega (arith, here.0, m.rising.0, join.lower))
                      (omega (arith, here.1, join.upper))))
                  | inr later ↦ in_append_right n (done ++ j ∷ []) rest later
                ]
          ];
      back = λ n i.
          m.back n (
          elim (in_append_cases n (done ++ j ∷ []) rest i) [
            | inl before ↦
                elim (in_append_cases n done (j ∷ []) before) [
                  | inl early ↦ in_append_left n (done ++ last ∷ []) (b ∷ rest) (in_append_left n done (last ∷ []) early)
                  | inr here ↦
                      let h = in_one n j here in
                      elim (cases_lt last.max n) [
                        | inl past ↦ in_append_right n (done ++ last ∷ []) (b ∷ rest)
                            (in_head n b rest (omega arith) (omega (arith, h.1, join.upper)))
                        | inr within ↦ in_append_left n (done ++ last ∷ []) (b ∷ rest)
                            (in_append_right n done (last ∷ [])
                            (in_head n last [] (omega (arith, h.0, join.lower)) within))
                      ]
                ]
            | inr after ↦ in_append_right n (done ++ last ∷ []) (b ∷ rest) (in_tail n b rest after)
          ]);
    }

-- a block apart from the last one becomes the last one
pub merged_new : (g : ℕ) (all done : List Block) (last b : Block) (rest : List Block) →
    IsMerged g all done last (b ∷ rest) → last.max + 1 < b.min → b.min ≤ b.max → b.max ≤ g →
    IsMerged g all (done ++ last ∷ []) b rest
merged_new g all done last b rest m far some small =
    let e = append_assoc (done ++ last ∷ []) (b ∷ []) rest in
    record {
      set = record { chain = followed done last b m.set.chain far some; small = small_more g (done ++ last ∷ []) b m.set.small small };
      rising = m.rising.1;
      to = λ n i. subst (λ (v : List Block). is_in n v ≡ true) (sym e) (m.to n i);
      back = λ n i. m.back n (subst (λ (v : List Block). is_in n v ≡ true) e i);
    }

same_bool : (p q : Bool) → (p ≡ true → q ≡ true) → (q ≡ true → p ≡ true) → p ≡ q
same_bool true q f g = sym (f refl)
same_bool false true f g = g refl
same_bool false false f g = refl

-- when nothing is remaining, what is merged has the numbers of the list
pub merged_end : (g : ℕ) (all sorted done : List Block) (last : Block) → IsPermutation all sorted →
    IsMerged g sorted done last [] → HaveSameNumbers (done ++ last ∷ []) all
merged_end g all sorted done last p m n =
    same_bool _ _ (λ i. m.back n (in_append_left n (done ++ last ∷ []) [] i)) (λ i.
    elim (in_append_cases n (done ++ last ∷ []) [] (m.to n i)) [
      | inl h ↦ h
      | inr none ↦ absurd cc
    ])
    ∙ sym (list_any-IsPermutation (is_within n) all sorted p)

-- merging in place starts with the first block
pub start_at : (g : ℕ) (items : List Block) (b : Block) → 0 < length items → b ≡ get_or items 0 b →
    IsNonDecreasingBy (λ x. x.min) items → b.min ≤ b.max → b.max ≤ g → IsMerged g items [] b (drop 1 items)
start_at g items b l is h some small =
    let e : items ≡ b ∷ drop 1 items = drop_read items 0 b l is in
    subst (λ (v : List Block). IsMerged g v [] b (drop 1 items)) (sym e)
    (merged_start g b (drop 1 items) (subst (λ (v : List Block). IsNonDecreasingBy (λ x. x.min) v) e h) some
    small)

-- a block at its place that touches the last one is joined to it
pub join_at : (g : ℕ) (all items : List Block) (kept i : ℕ) (last b j : Block) → i < length items →
    b ≡ get_or items i b → IsMerged g all (take kept items) last (drop i items) → b.min ≤ last.max + 1 →
    b.min ≤ b.max → b.max ≤ g → IsJoin last b j → IsMerged g all (take kept items) j (drop (i + 1) items)
join_at g all items kept i last b j l is m near some small join =
    merged_join g all (take kept items) last b j (drop (i + 1) items)
    (subst (λ (v : List Block). IsMerged g all (take kept items) last v) (drop_read items i b l is) m) near some
    small join

-- a block at its place apart from the last one becomes the last one
pub new_at : (g : ℕ) (all items : List Block) (kept i : ℕ) (last b : Block) → i < length items →
    b ≡ get_or items i b → kept < i → IsMerged g all (take kept items) last (drop i items) → last.max + 1 < b.min →
    b.min ≤ b.max → b.max ≤ g →
    IsMerged g all (take (kept + 1) (set items kept last)) b (drop (i + 1) (set items kept last))
new_at g all items kept i last b l is behind m far some small =
    let front = take_more_set items kept last (omega arith) in
    let back = drop-set-lt (i + 1) items kept last (omega arith) in
    rw (front, back) (merged_new g all (take kept items) last b (drop (i + 1) items)
    (subst (λ (v : List Block). IsMerged g all (take kept items) last v) (drop_read items i b l is) m) far some
    small)

-- at the end of the vector, what is merged has the numbers of the list
pub end_at : (g : ℕ) (all sorted items : List Block) (kept i : ℕ) (last : Block) → IsPermutation all sorted →
    kept < length items → length items ≤ i → IsMerged g sorted (take kept items) last (drop i items) →
    HaveSameNumbers (take (kept + 1) (set items kept last)) all
end_at g all sorted items kept i last p l past m =
    rw (take_more_set items kept last l)
    (merged_end g all sorted (take kept items) last p
    (subst (λ (v : List Block). IsMerged g sorted (take kept items) last v) (drop_all i items past) m))

-- ---- blocks that are a set as they stand

-- the first block alone is a set
pub set_first : (g : ℕ) (items : List Block) (b : Block) → 0 < length items → b ≡ get_or items 0 b → b.min ≤ b.max →
    b.max ≤ g → IsSet g (take 1 items)
set_first g [] b l is some small = absurd (omega (arith, l))
set_first g (x ∷ items) b l is some small = let e : b ≡ x = is in
    subst (λ (v : Block). IsSet g (v ∷ [])) e (record { chain = some; small = (small, tt) })

-- a set of the first blocks goes on with the next one, where that is apart from the last of them
pub set_more : (g : ℕ) (items : List Block) (i : ℕ) (a b : Block) → i + 1 < length items → a ≡ get_or items i a →
    b ≡ get_or items (i + 1) b → IsSet g (take (i + 1) items) → a.max + 1 < b.min → b.min ≤ b.max → b.max ≤ g →
    IsSet g (take (i + 1 + 1) items)
set_more g items i a b l at_i at_next h far some small =
    let front : take (i + 1) items ≡ take i items ++ a ∷ [] = take_more items i a (omega (arith, l)) ∙
    ap (λ (v : Block). take i items ++ v ∷ []) (sym at_i) in
    let all : take (i + 1 + 1) items ≡ (take i items ++ a ∷ []) ++ b ∷ [] = take_more items (i + 1) b l ∙
    (λ k. front k ++ at_next_is k ∷ []) in
    let was : IsSet g (take i items ++ a ∷ []) = subst (λ (v : List Block). IsSet g v) front h in
    subst (λ (v : List Block). IsSet g v) (sym all)
    (record {
      chain = followed (take i items) a b was.chain far some;
      small =
          small_more g (take i items ++ a ∷ []) b was.small small;
    })
  where
    at_next_is : get_or items (i + 1) b ≡ b
    at_next_is = sym at_next

-- a set of all blocks
pub set_all : (g : ℕ) (items : List Block) (i : ℕ) → length items ≤ i → IsSet g (take i items) → IsSet g items
set_all g items i l h = subst (λ (v : List Block). IsSet g v) (take_all i items l) h

-- the empty list is a set
pub set_none : (g : ℕ) (bs : List Block) → true ≡ (length bs == 0) → IsSet g bs
set_none g [] none = record { chain = tt; small = tt }
set_none g (b ∷ bs) none = absurd (omega (arith, eqb-true (length (b ∷ bs)) 0 (sym none)))
