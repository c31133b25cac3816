-- A walk along two chains.
use Rattle.std.proofs.Common.{◌≡◌, ℕ, ◌+◌, ◌<◌, ◌≤◌, ◌⊎◌, ◌↔◌, true, false, IsTrue, IsFalse, max, List, [], ◌∷◌, ◌++◌}
use Rattle.std.proofs.Common.{subst, length, get_or, drop, refl, sym, ap, ◌∙◌, arith, inl, inr}
use Rattle.std.proofs.lemmas.Bool.{cases_lt, false_from_ne_true, both_ways}
use Rattle.std.proofs.lemmas.List.{drop_more, drop_all}
use Rattle.rpki_blocks.specs.Sets.{Block, is_in, IsChain, AreUpTo, IsSet, AreIn, Escapes}
use Rattle.rpki_blocks.specs.Pairs.{IsMeet, AreApart}
use Rattle.rpki_blocks.proofs.Sets.{in_head, in_tail, in_cases, at_least, beyond, chain_tail, chain_head, in_up_to, up_to_by_numbers}

-- a chain's end: what was found, and a block after it

-- the block of one number
abbrev pub one : ℕ → Block
one n = record { min = n; max = n }

-- a block in place of the number at its foot
pub widen : (bs : List Block) (b : Block) → IsChain (bs ++ one b.min ∷ []) → b.min ≤ b.max → IsChain (bs ++ b ∷ [])
widen [] b h l = l
widen (a ∷ []) b h l = (h.0, h.1, l)
widen (a ∷ c ∷ bs) b h l = (h.0, h.1, widen (c ∷ bs) b h.2 l)

-- a further number past the last block
pub further : (bs : List Block) (b : Block) (n : ℕ) → IsChain (bs ++ b ∷ []) → b.max + 1 < n → IsChain ((bs ++ b ∷ []) ++ one n ∷ [])
further [] b n h l = (h, l, omega arith)
further (a ∷ []) b n h l = (h.0, h.1, (h.2, l, omega arith))
further (a ∷ c ∷ bs) b n h l = (h.0, h.1, further (c ∷ bs) b n h.2 l)

-- a number of two lists is in one of them
pub in_append_cases : (n : ℕ) (bs cs : List Block) → is_in n (bs ++ cs) ≡ true → (is_in n bs ≡ true) ⊎ (is_in n cs ≡ true)
in_append_cases n [] cs h = inr h
in_append_cases n (b ∷ bs) cs h =
    elim (in_cases n b (bs ++ cs) h) [
      | inl here ↦ inl (in_head n b bs here.0 here.1)
      | inr later ↦ elim (in_append_cases n bs cs later) [ inl i ↦ inl (in_tail n b bs i) | inr i ↦ inr i ]
    ]

-- a number of the first list is in both together
pub in_append_left : (n : ℕ) (bs cs : List Block) → is_in n bs ≡ true → is_in n (bs ++ cs) ≡ true
in_append_left n [] cs h = absurd cc
in_append_left n (b ∷ bs) cs h =
    elim (in_cases n b bs h) [
      | inl here ↦ in_head n b (bs ++ cs) here.0 here.1
      | inr later ↦ in_tail n b (bs ++ cs) (in_append_left n bs cs later)
    ]

-- a number of the second list is in both together
pub in_append_right : (n : ℕ) (bs cs : List Block) → is_in n cs ≡ true → is_in n (bs ++ cs) ≡ true
in_append_right n [] cs h = h
in_append_right n (b ∷ bs) cs h = in_tail n b (bs ++ cs) (in_append_right n bs cs h)

-- a number in a list of one block is in the block
pub in_one : (n : ℕ) (b : Block) → is_in n (b ∷ []) ≡ true → (b.min ≤ n) × (n ≤ b.max)
in_one n b h = elim (in_cases n b [] h) [ inl here ↦ here | inr later ↦ absurd cc ]

-- both has the numbers of xs and ys that the walk along ps and qs has passed; xs and ys remain
pub record IsWalk (ps qs both xs ys : List Block) : Type 0 where
  pub left : IsChain xs
  pub right : IsChain ys
  pub chain : IsChain both
  pub left_in : AreIn xs ps
  pub right_in : AreIn ys qs
  pub sound : (n : ℕ) → is_in n both ≡ true → (is_in n ps ≡ true) × (is_in n qs ≡ true)
  pub complete : (n : ℕ) → is_in n ps ≡ true → is_in n qs ≡ true → (is_in n both ≡ true) ⊎ ((is_in n xs ≡ true) × (is_in n ys ≡ true))
  pub apart : (n : ℕ) → is_in n xs ≡ true → is_in n ys ≡ true → IsChain (both ++ one n ∷ [])

-- a walk over two chains is one over them in the other order
pub walk_swapped : (ps qs both xs ys : List Block) → IsWalk ps qs both xs ys → IsWalk qs ps both ys xs
walk_swapped ps qs both xs ys w = record {
  left = w.right;
  right = w.left;
  chain = w.chain;
  left_in = w.right_in;
  right_in = w.left_in;
  sound = λ n i. let s = w.sound n i in (s.1, s.0);
  complete = λ n i j. elim (w.complete n j i) [ inl k ↦ inl k | inr k ↦ inr (k.1, k.0) ];
  apart = λ n i j. w.apart n j i;
}

-- the left block ends first, and meets none of the right chain
pub walk_past : (ps qs both : List Block) (x : Block) (xs : List Block) (y : Block) (ys : List Block) →
    IsWalk ps qs both (x ∷ xs) (y ∷ ys) → x.max < y.min → IsWalk ps qs both xs (y ∷ ys)
walk_past ps qs both x xs y ys w l = record {
  left = chain_tail x xs w.left;
  right = w.right;
  chain = w.chain;
  left_in = λ n i. w.left_in n (in_tail n x xs i);
  right_in = w.right_in;
  sound = w.sound;
  complete = λ n i j.
      elim (w.complete n i j) [
        | inl k ↦ inl k
        | inr k ↦
            elim (in_cases n x xs k.0) [
              | inl here ↦ let low : y.min ≤ n = at_least n y ys w.right k.1 in absurd (omega (arith, here.1))
              | inr later ↦ inr (later, k.1)
            ]
      ];
  apart = λ n i j. w.apart n (in_tail n x xs i) j;
}

-- the left block ends first, and meets the right one in m
pub walk_meet : (ps qs both : List Block) (x : Block) (xs : List Block) (y : Block) (ys : List Block) (m : Block) →
    IsWalk ps qs both (x ∷ xs) (y ∷ ys) → m.min ≡ max x.min y.min → m.max ≡ x.max → m.min ≤ m.max → x.max ≤ y.max →
    IsWalk ps qs (both ++ m ∷ []) xs (y ∷ ys)
walk_meet ps qs both x xs y ys m w low high some l =
    let foot = w.apart m.min (in_head m.min x xs (omega arith) (omega arith)) (in_head m.min y ys (omega arith) (omega arith)) in
    let met : IsChain (both ++ m ∷ []) = widen both m foot some in
    record {
      left = chain_tail x xs w.left;
      right = w.right;
      chain = met;
      left_in = λ n i. w.left_in n (in_tail n x xs i);
      right_in = w.right_in;
      sound = λ n i.
          elim (in_append_cases n both (m ∷ []) i) [
            | inl k ↦ w.sound n k
            | inr k ↦
                let h = in_one n m k in (
                  w.left_in n (in_head n x xs (omega (arith, h.0)) (omega (arith, h.1))),
                  w.right_in n (in_head n y ys (omega (arith, h.0)) (omega (arith, h.1))),
                )
          ];
      complete = λ n i j.
          elim (w.complete n i j) [
            | inl k ↦ inl (in_append_left n both (m ∷ []) k)
            | inr k ↦
                elim (in_cases n x xs k.0) [
                  | inl here ↦ let up : y.min ≤ n = at_least n y ys w.right k.1 in
                      inl (in_append_right n both (m ∷ [])
                      (in_head n m [] (omega (arith, here.0)) (omega (arith, here.1))))
                  | inr later ↦ inr (later, k.1)
                ]
          ];
      apart = λ n i j. let far : x.max + 1 < n = beyond n x xs w.left i in further both m n met (omega arith);
    }

-- what a walk over a set gathers is a set
pub walk_set : (g : ℕ) (ps qs both xs ys : List Block) → IsSet g ps → IsWalk ps qs both xs ys → IsSet g both
walk_set g ps qs both xs ys p w =
    record {
      chain = w.chain;
      small =
          up_to_by_numbers g both w.chain (λ n i. in_up_to g n ps p.small (w.sound n i).0);
    }

-- what is both x and y was put at the end of both, if there is any
abbrev pub IsGrown : Block → Block → List Block → List Block → Type 0
IsGrown x y both more =
    ((m : Block) × IsMeet x y m × (more ≡ both ++ m ∷ [])) ⊎ (AreApart x y × (more ≡ both))

grown_turned : (x y : Block) (both more : List Block) → IsGrown x y both more → IsGrown y x both more
grown_turned x y both more g =
    elim g [
      | inl h ↦ inl (h.0, record { lower = omega (arith, h.1); upper = omega (arith, h.1); some = h.1.some }, h.2)
      | inr h ↦ inr (omega (arith, h.0), h.1)
    ]

-- a walk goes on past a block of the first chain that ends no later
pub walk_left : (ps qs both more : List Block) (x : Block) (xs : List Block) (y : Block) (ys : List Block) →
    IsWalk ps qs both (x ∷ xs) (y ∷ ys) → IsGrown x y both more → x.max ≤ y.max → IsWalk ps qs more xs (y ∷ ys)
walk_left ps qs both more x xs y ys w g l =
    let some : x.min ≤ x.max = chain_head x xs w.left in
    elim g [
      | inl h ↦ rw h.2 (walk_meet ps qs both x xs y ys h.0 w h.1.lower (omega (arith, h.1)) h.1.some l)
      | inr h ↦ rw h.1 (walk_past ps qs both x xs y ys w (omega (arith, h.0)))
    ]

-- a walk goes on past a block of the second chain that ends no later
pub walk_right : (ps qs both more : List Block) (x : Block) (xs : List Block) (y : Block) (ys : List Block) →
    IsWalk ps qs both (x ∷ xs) (y ∷ ys) → IsGrown x y both more → y.max ≤ x.max → IsWalk ps qs more (x ∷ xs) ys
walk_right ps qs both more x xs y ys w g l =
    walk_swapped qs ps more ys (x ∷ xs)
    (walk_left qs ps both more y ys x xs (walk_swapped ps qs both (x ∷ xs) (y ∷ ys) w)
    (grown_turned x y both more g) l)

-- what remains from place i is the block there and what remains after it
pub drop_read : (xs : List Block) (i : ℕ) (x : Block) → i < length xs → x ≡ get_or xs i x → drop i xs ≡ x ∷ drop (i + 1) xs
drop_read xs i x l e = drop_more xs i x l ∙ ap (λ v. v ∷ drop (i + 1) xs) (sym e)

-- x and y stand at the places i and j
pub record IsAt (xs ys : List Block) (i j : ℕ) (x y : Block) : Type 0 where
  pub left_below : i < length xs
  pub right_below : j < length ys
  pub left : x ≡ get_or xs i x
  pub right : y ≡ get_or ys j y

-- what is said of what remains from both places may be said of the blocks there
pub at_both : (xs ys : List Block) (i j : ℕ) (x y : Block) (P : List Block → List Block → Type 0) →
    IsAt xs ys i j x y → P (drop i xs) (drop j ys) → P (x ∷ drop (i + 1) xs) (y ∷ drop (j + 1) ys)
at_both xs ys i j x y P a h =
    subst (λ (v : List Block). P v (y ∷ drop (j + 1) ys)) (drop_read xs i x a.left_below a.left)
    (subst (λ (v : List Block). P (drop i xs) v) (drop_read ys j y a.right_below a.right) h)

-- a walk goes on in the first chain
pub left_at : (both more xs ys : List Block) (i j : ℕ) (x y : Block) → IsAt xs ys i j x y →
    IsWalk xs ys both (drop i xs) (drop j ys) → IsGrown x y both more → x.max ≤ y.max →
    IsWalk xs ys more (drop (i + 1) xs) (drop j ys)
left_at both more xs ys i j x y a w g l =
    subst (λ (v : List Block). IsWalk xs ys more (drop (i + 1) xs) v) (sym (drop_read ys j y a.right_below a.right))
    (walk_left xs ys both more x _ y _ (at_both xs ys i j x y (IsWalk xs ys both) a w) g l)

-- a walk goes on in the second chain
pub right_at : (both more xs ys : List Block) (i j : ℕ) (x y : Block) → IsAt xs ys i j x y →
    IsWalk xs ys both (drop i xs) (drop j ys) → IsGrown x y both more → y.max ≤ x.max →
    IsWalk xs ys more (drop i xs) (drop (j + 1) ys)
right_at both more xs ys i j x y a w g l =
    subst (λ (v : List Block). IsWalk xs ys more v (drop (j + 1) ys)) (sym (drop_read xs i x a.left_below a.left))
    (walk_right xs ys both more x _ y _ (at_both xs ys i j x y (IsWalk xs ys both) a w) g l)

-- what remains of both chains decides whether the first is in the second
pub record IsDecided (g : ℕ) (ps qs xs ys : List Block) : Type 0 where
  pub left : IsChain xs
  pub right : IsChain ys
  pub small : AreUpTo g xs
  pub yes : AreIn xs ys → AreIn ps qs
  pub no : Escapes g xs ys → Escapes g ps qs

-- a number outside a block and outside the others is outside the list
pub not_in : (n : ℕ) (b : Block) (bs : List Block) → (n < b.min) ⊎ (b.max < n) → is_in n bs ≡ false → is_in n (b ∷ bs) ≡ false
not_in n b bs h e =
    false_from_ne_true _ (λ i.
    elim (in_cases n b bs i) [
      | inl here ↦ elim h [ inl low ↦ omega (arith, here.0) | inr high ↦ omega (arith, here.1) ]
      | inr later ↦ both_ways _ e later
    ])

-- the search goes on past a block of the second list that ends before
pub decided_past : (g : ℕ) (ps qs : List Block) (x : Block) (xs : List Block) (y : Block) (ys : List Block) →
    IsDecided g ps qs (x ∷ xs) (y ∷ ys) → y.max < x.min → IsDecided g ps qs (x ∷ xs) ys
decided_past g ps qs x xs y ys d l = record {
  left = d.left;
  right = chain_tail y ys d.right;
  small = d.small;
  yes = λ h. d.yes (λ n i. in_tail n y ys (h n i));
  no = λ e. d.no (let low : x.min ≤ e.number = at_least e.number x xs d.left e.inside in
      record {
        number = e.number;
        small = e.small;
        inside = e.inside;
        outside =
            not_in e.number y ys (inr (omega (arith, low))) e.outside;
      });
}

-- the search goes on past a block of the first list that is held
pub decided_held : (g : ℕ) (ps qs : List Block) (x : Block) (xs : List Block) (y : Block) (ys : List Block) →
    IsDecided g ps qs (x ∷ xs) (y ∷ ys) → y.min ≤ x.min → x.max ≤ y.max → IsDecided g ps qs xs (y ∷ ys)
decided_held g ps qs x xs y ys d low high = record {
  left = chain_tail x xs d.left;
  right = d.right;
  small = d.small.1;
  yes = λ h. d.yes (λ n i.
      elim (in_cases n x xs i) [
        | inl here ↦ in_head n y ys (omega (arith, here.0)) (omega (arith, here.1))
        | inr later ↦ h n later
      ]);
  no = λ e. d.no (record { number = e.number; small = e.small; inside = in_tail e.number x xs e.inside; outside = e.outside });
}

-- nothing remains to hold the first block
pub decided_none : (g : ℕ) (ps qs : List Block) (x : Block) (xs : List Block) → IsDecided g ps qs (x ∷ xs) [] → Escapes g ps qs
decided_none g ps qs x xs d =
    d.no (record {
      number = x.min;
      small = omega (arith, d.small.0, chain_head x xs d.left);
      inside =
          in_head x.min x xs (omega arith) (chain_head x xs d.left);
      outside = refl;
    })

-- where a block reaches the second list and sticks out of it, a number of the first list escapes
pub decided_escapes : (g : ℕ) (ps qs : List Block) (x : Block) (xs : List Block) (y : Block) (ys : List Block) →
    IsDecided g ps qs (x ∷ xs) (y ∷ ys) → x.min ≤ y.max → (x.min < y.min) ⊎ (y.max < x.max) → Escapes g ps qs
decided_escapes g ps qs x xs y ys d near out =
    let some : x.min ≤ x.max = chain_head x xs d.left in
    elim (cases_lt x.min y.min) [
      | inl below ↦ d.no (record {
        number = x.min;
        small = omega (arith, d.small.0);
        inside = in_head x.min x xs (omega arith) some;
        outside = false_from_ne_true _ (λ i. let low : y.min ≤ x.min = at_least x.min y ys d.right i in omega arith);
      })
      | inr above ↦
          let more : y.max < x.max = elim out [ inl l ↦ omega arith | inr l ↦ l ] in
          d.no (record {
            number = y.max + 1;
            small = omega (arith, d.small.0);
            inside = in_head (y.max + 1) x xs (omega arith) (omega arith);
            outside = not_in (y.max + 1) y ys (inr (omega arith))
                (false_from_ne_true _ (λ i. let far : y.max + 1 < y.max + 1 = beyond (y.max + 1) y ys d.right i in
                omega arith));
          })
    ]

-- the search goes on in the second list
pub past_at : (g : ℕ) (xs ys : List Block) (i j : ℕ) (x y : Block) → IsAt xs ys i j x y →
    IsDecided g xs ys (drop i xs) (drop j ys) → y.max < x.min → IsDecided g xs ys (drop i xs) (drop (j + 1) ys)
past_at g xs ys i j x y a d l =
    subst (λ (v : List Block). IsDecided g xs ys v (drop (j + 1) ys)) (sym (drop_read xs i x a.left_below a.left))
    (decided_past g xs ys x _ y _ (at_both xs ys i j x y (IsDecided g xs ys) a d) l)

-- the search goes on in the first list
pub held_at : (g : ℕ) (xs ys : List Block) (i j : ℕ) (x y : Block) → IsAt xs ys i j x y →
    IsDecided g xs ys (drop i xs) (drop j ys) → y.min ≤ x.min → x.max ≤ y.max →
    IsDecided g xs ys (drop (i + 1) xs) (drop j ys)
held_at g xs ys i j x y a d low high =
    subst (λ (v : List Block). IsDecided g xs ys (drop (i + 1) xs) v) (sym (drop_read ys j y a.right_below a.right))
    (decided_held g xs ys x _ y _ (at_both xs ys i j x y (IsDecided g xs ys) a d) low high)

-- where the second list has ended, a number of the first is outside it
pub none_at : (g : ℕ) (xs ys : List Block) (i j : ℕ) → i < length xs → length ys ≤ j →
    IsDecided g xs ys (drop i xs) (drop j ys) → Escapes g xs ys
none_at g xs ys i j l past d =
    let some : Block = record { min = 0; max = 0 } in
    let e = drop_more xs i some l in
    decided_none g xs ys (get_or xs i some) (drop (i + 1) xs)
    (subst (λ (v : List Block). IsDecided g xs ys v []) e
    (subst (λ (v : List Block). IsDecided g xs ys (drop i xs) v) (drop_all j ys past) d))

-- a number that escapes and all numbers inside exclude each other
pub says_no : (g : ℕ) (xs ys : List Block) → Escapes g xs ys → (IsTrue false ↔ AreIn xs ys) × (IsFalse false ↔ Escapes g xs ys)
says_no g xs ys e = ((λ t. absurd cc, λ f. absurd (both_ways _ e.outside (f e.number e.inside))), (λ t. e, λ t. refl))

-- before the search all remains
pub undecided : (g : ℕ) (xs ys : List Block) → IsSet g xs → IsSet g ys → IsDecided g xs ys xs ys
undecided g xs ys left right = record { left = left.chain; right = right.chain; small = left.small; yes = λ h. h; no = λ e. e }

-- where the first list has ended, each number of it is inside the second
pub says_yes : (g : ℕ) (xs ys : List Block) (i j : ℕ) → length xs ≤ i → IsDecided g xs ys (drop i xs) (drop j ys) →
    (IsTrue true ↔ AreIn xs ys) × (IsFalse true ↔ Escapes g xs ys)
says_yes g xs ys i j past d =
    let ended = subst (λ (v : List Block). IsDecided g xs ys v (drop j ys)) (drop_all i xs past) d in
    let all : AreIn xs ys = ended.yes (λ n inside. absurd cc) in
    ((λ t. all, λ f. refl), (λ t. absurd cc, λ e. absurd (both_ways _ e.outside (all e.number e.inside))))
