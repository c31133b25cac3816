use Rattle.std.proofs.Common.{◌≡◌, ◌∙◌, ℕ, zero, suc, ◌-◌, List, [], ◌∷◌, ◌++◌, map, take, ap, sym, refl, append_assoc, arith}
use Rattle.rpki_crl.specs.RevokedEntries.{Entry}
use Rattle.rpki_document.specs.Documents.{Node}
use Rattle.rpki_answers.specs.ShownLists.{entry_node}
use Rattle.rpki_answers.proofs.showing.lists.add_first.Goals as goal

-- the first one of the first n entries
one_of_first : (n : ℕ) (e : Entry) (rest es : List Entry) → es ≡ e ∷ rest → (n ≡ 0 → ⊥) → take n es ≡ e ∷ take (n - 1) rest
one_of_first zero e rest es is some = absurd (some refl)
one_of_first (suc n) e rest es is some = let less : suc n - 1 ≡ n = omega arith in rw (is, less) refl

one_more : (n : ℕ) (e : Entry) (rest es : List Entry) (mid new whole : List Node) → es ≡ e ∷ rest → (n ≡ 0 → ⊥)
    → new ≡ mid ++ entry_node e ∷ [] → mid ++ map entry_node (take n es) ≡ whole
    → new ++ map entry_node (take (n - 1) rest) ≡ whole
one_more n e rest es mid new whole is some added so_far =
    ap (λ (l : List Node). l ++ map entry_node (take (n - 1) rest)) added
    ∙ append_assoc mid (entry_node e ∷ []) (map entry_node (take (n - 1) rest))
    ∙ ap (λ (l : List Entry). mid ++ map entry_node l) (sym (one_of_first n e rest es is some))
    ∙ so_far

pub loop-entry-preserved : goal.loop-entry-preserved
loop-entry-preserved c =
    one_more _ _ _ _ _ _ _ c.in-Some.ensures.steps c.if-left-eq0.false c.in_ok-add_entry.ensures c.loop-entry.invariant
