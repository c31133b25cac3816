-- Folds over items, one more at a time.
use Rattle.std.specs.Prelude.{fold}
use Rattle.std.proofs.Common.{◌≡◌, ◌∙◌, ◌+◌, ◌<◌, ◌++◌, ◌∷◌, [], ℕ, List, get_or, length, take, sym, ap}
use Rattle.std.proofs.lemmas.List.{take_more}
use Rattle.std.proofs.lemmas.List.Sums.{fold-append}

-- a fold over one item more
pub fold_more : {A B : Type 0} (f : B → A → B) (a : B) (xs : List A) (i : ℕ) (x : A) → i < length xs →
    x ≡ get_or xs i x → fold f a (take (i + 1) xs) ≡ f (fold f a (take i xs)) x
fold_more {A} {B} f a xs i x low there =
    ap (λ (l : List A). fold f a l) (take_more xs i x low ∙ ap (λ (y : A). take i xs ++ y ∷ []) (sym there)) ∙
    fold-append f a (take i xs) (x ∷ [])
