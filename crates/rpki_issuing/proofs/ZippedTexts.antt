-- Texts, and the blocks that each of them is.
use Rattle.std.proofs.Common.{◌≡◌, ℕ, zero, suc, ◌+◌, ◌<◌, ◌≤◌, Bool, List, [], ◌∷◌, ◌++◌, length, get_or, take}
use Rattle.std.proofs.Common.{map, Bor, refl, sym, ap, ◌∙◌, arith, add-one, inl, inr}
use Rattle.std.specs.List.{AllZip}
use Rattle.std.specs.Prelude.{bytes_eq, IsTrue}
use Rattle.std.proofs.lemmas.Slice.Eq.{bytes_eq-Decides}
use Rattle.rpki_blocks.specs.Resources.{Resources, listed}
use Rattle.rpki_blocks.specs.Sets.{Block, IsChain, HaveSameNumbers, is_in}
use Rattle.rpki_issuing.specs.BlockTexts.{AreListed, inherit_texts}
use Rattle.rpki_issuing.specs.OnlyValues.{IsOnly}

-- one of the texts more
pub take_more : (ts : List (Bor (List ℕ))) (i : ℕ) (d : Bor (List ℕ)) → i < length ts →
    map (λ t. t.now) (take (i + 1) ts) ≡ map (λ t. t.now) (take i ts) ++ (get_or ts i d).now ∷ []
take_more [] i d below = absurd (omega arith)
take_more (t ∷ ts) zero d below = refl
take_more (t ∷ ts) (suc i) d below =
    let more = take_more ts i d (omega arith) in
    rw add-one (ap (λ (l : List (List ℕ)). t.now ∷ l) (rw add-one at more))

-- whether a text alone is this word
pub one_word : (ts : List (Bor (List ℕ))) (d : Bor (List ℕ)) (word : List ℕ) (r : Bool) → 1 ≤ length ts →
    length ts < 2 → r ≡ bytes_eq (get_or ts 0 d).now word
    → (IsTrue r → map (λ t. t.now) ts ≡ word ∷ []) × (map (λ t. t.now) ts ≡ word ∷ [] → IsTrue r)
one_word [] d word r some few e = absurd (omega arith)
one_word (t ∷ []) d word r some few e = (
  λ is. ap (λ (l : List ℕ). l ∷ []) ((bytes_eq-Decides t.now word).0 (sym e ∙ is)),
  λ same. let it : t.now ≡ word = cc in e ∙ (bytes_eq-Decides t.now word).1 it,
)
one_word (t ∷ (u ∷ ts)) d word r some few e = absurd (omega arith)

module _ {A : Type 0} (R : A → List ℕ → Type 0) where
  zip_push : (xs : List A) (ys : List (List ℕ)) (x : A) (y : List ℕ) → AllZip R xs ys → R x y →
      AllZip R (xs ++ x ∷ []) (ys ++ y ∷ [])
  zip_push [] [] x y z r = (r, tt)
  zip_push [] (b ∷ ys) x y z r = elim z [ ]
  zip_push (a ∷ xs) [] x y z r = elim z [ ]
  zip_push (a ∷ xs) (b ∷ ys) x y z r = (z.0, zip_push xs ys x y z.1 r)

  -- the last of them
  zip_pop : (zs : List A) (ys : List (List ℕ)) (y : List ℕ) → AllZip R zs (ys ++ y ∷ []) →
      (xs : List A) × (x : A) × AllZip R xs ys × R x y × (zs ≡ xs ++ x ∷ [])
  zip_pop [] [] y z = elim z [ ]
  zip_pop [] (b ∷ ys) y z = elim z [ ]
  zip_pop (a ∷ []) [] y z = ([], a, tt, z.0, refl)
  zip_pop (a ∷ (c ∷ zs)) [] y z = elim z.1 [ ]
  zip_pop (a ∷ zs) (b ∷ ys) y z =
      let (xs, x, front, last, e) = zip_pop zs ys y z.1 in
      (a ∷ xs, x, (z.0, front), last, ap (λ (l : List A). a ∷ l) e)

  -- one more of each
  pub only_more : (xs : List A) (ys : List (List ℕ)) (x : A) (y : List ℕ) → IsOnly (λ zs. AllZip R zs ys) xs →
      IsOnly (λ z. R z y) x → IsOnly (λ zs. AllZip R zs (ys ++ y ∷ [])) (xs ++ x ∷ [])
  only_more xs ys x y front last = (
    zip_push xs ys x y front.0 last.0,
    λ zs is.
        let (ws, w, fronts, lasts, e) = zip_pop zs ys y is in
        e ∙ ap (λ (l : List A). l ++ w ∷ []) (front.1 ws fronts) ∙ ap (λ (z : A). xs ++ z ∷ []) (last.1 w lasts),
  )

  -- no text is zipped with nothing alone
  pub only_none : IsOnly (λ (zs : List A). AllZip R zs []) []
  only_none = (tt, λ zs. elim zs as (λ l. AllZip R l [] → l ≡ []) [ [] ↦ λ z. refl | a ∷ more ↦ λ z. elim z [ ] ])

  -- nothing is zipped with texts of which one is none
  pub none_at : (ts : List (Bor (List ℕ))) (i : ℕ) (d : Bor (List ℕ)) → i < length ts →
      ((x : A) → R x (get_or ts i d).now → ⊥) → (zs : List A) → AllZip R zs (map (λ t. t.now) ts) → ⊥
  none_at [] i d below none zs z = absurd (omega arith)
  none_at (t ∷ ts) i d below none [] z = elim z [ ]
  none_at (t ∷ ts) zero d below none (a ∷ zs) z = none a z.0
  none_at (t ∷ ts) (suc i) d below none (a ∷ zs) z = none_at ts i d (omega arith) none zs z.1

-- the set of the blocks is what is listed
pub only_listed : (one : (bs cs : List Block) → IsChain bs → IsChain cs → HaveSameNumbers bs cs → bs ≡ cs)
    (R : Block → List ℕ → Type 0) (texts : List (List ℕ)) (bs chain : List Block) (r : Resources)
    → (texts ≡ inherit_texts → ⊥) → IsOnly (λ cs. AllZip R cs texts) bs → HaveSameNumbers chain bs → IsChain chain →
    r ≡ listed chain → IsOnly (λ s. AreListed R s texts) r
only_listed one R texts bs chain r ne only same is e = (
  inr (bs, ne, only.0, record { chain = chain; is_chain = is; same = same; is = e }),
  λ s h. elim h [
    | inl inherited ↦ absurd (ne inherited.0)
    | inr (cs, _, zip, union) ↦
        let blocks : cs ≡ bs = only.1 cs zip in
        let chains = one union.chain chain union.is_chain is
        (λ n. union.same n ∙ ap (λ (l : List Block). is_in n l) blocks ∙ sym (same n)) in
        union.is ∙ ap listed chains ∙ sym e
  ],
)
