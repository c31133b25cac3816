-- Octets taken from a reader or given to a writer in several steps.
use Rattle.std.proofs.Common.{◌≡◌, ℕ, List, ◌++◌, take, drop, Option, Some, None, sym, ap, ◌∙◌, append_assoc, take-append-drop}
use Rattle.std.specs.Io.KnownBytes.{Appends, Consumes}

-- what is consumed in two steps is consumed together
pub consumes_more : (a b c : Option (List ℕ)) (xs ys : List ℕ) → Consumes a b xs → Consumes b c ys → Consumes a c (xs ++ ys)
consumes_more None b c xs ys p q = tt
consumes_more (Some ps) None c xs ys p q = absurd p
consumes_more (Some ps) (Some bs) None xs ys p q = absurd q
consumes_more (Some ps) (Some bs) (Some cs) xs ys p q = p ∙ ap (λ (l : List ℕ). xs ++ l) q ∙ sym (append_assoc xs ys cs)

-- what is appended in two steps is appended together
pub appends_more : (a b c : Option (List ℕ)) (xs ys : List ℕ) → Appends a b xs → Appends b c ys → Appends a c (xs ++ ys)
appends_more None b c xs ys p q = tt
appends_more (Some ps) None c xs ys p q = absurd p
appends_more (Some ps) (Some bs) None xs ys p q = absurd q
appends_more (Some ps) (Some bs) (Some cs) xs ys p q = q ∙ ap (λ (l : List ℕ). l ++ ys) p ∙ append_assoc ps xs ys

-- a further front of what remains
pub parts_more : (whole front rest : List ℕ) (n : ℕ) → whole ≡ front ++ rest → whole ≡ (front ++ take n rest) ++ drop n rest
parts_more whole front rest n e = e ∙ ap (λ (l : List ℕ). front ++ l) (sym (take-append-drop n rest)) ∙
    sym (append_assoc front (take n rest) (drop n rest))
