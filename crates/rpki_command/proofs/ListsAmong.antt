-- The names of those of the files that begin with lists.
use Rattle.std.proofs.Common.{◌≡◌, ◌+◌, ◌<◌, ◌∷◌, ◌++◌, ℕ, List, [], length, take, get_or, sym, ap, subst, ◌∙◌, inl, inr}
use Rattle.std.proofs.lemmas.List.{take_more}
use Rattle.rpki_files.specs.Files.{FileFields}
use Rattle.rpki_command.specs.SoughtPaths.{AreListNames}

-- one item more
pub gone_over : {X : Type 0} (xs : List X) (i : ℕ) (x : X) → i < length xs → x ≡ get_or xs i x → take (i + 1) xs ≡ take i xs ++ x ∷ []
gone_over xs i x low there = take_more xs i x low ∙ ap (λ (y : _). take i xs ++ y ∷ []) (sym there)

-- of files, and of one more
pub lists_more : (files : List FileFields) (names : List (List ℕ)) → AreListNames files names →
    (file : FileFields) (its : List (List ℕ)) → AreListNames (file ∷ []) its →
    AreListNames (files ++ file ∷ []) (names ++ its)
lists_more [] names h file its one = subst (λ (l : List (List ℕ)). AreListNames (file ∷ []) (l ++ its)) (sym h) one
lists_more (f ∷ fs) names (inl h) file its one = inl (h.0, lists_more fs names h.1 file its one)
lists_more (f ∷ fs) names (inr h) file its one =
    inr (h.0 ++ its, h.1, lists_more fs h.0 h.2 file its one, ap (λ (l : List (List ℕ)). l ++ its) h.3)
