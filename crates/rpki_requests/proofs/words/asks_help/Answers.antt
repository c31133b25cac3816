use Rattle.std.specs.Prelude.{Contains, codes}
use Rattle.std.proofs.Common.{ℕ, List, inl, inr, sym, subst, ◌∙◌}
use Rattle.std.proofs.lemmas.Bool.{false≢true}
use Rattle.rpki_requests.proofs.words.asks_help.Goals as goal

pub returns-else-has_word : goal.returns-else-has_word
returns-else-has_word c =
    let same = c.around_dashes.ensures.before in (
      λ so. inr (subst (λ (l : List (List ℕ)). Contains l (codes "-h")) same (c.has_word-else-has_word.ensures.0 so)),
      λ asks. elim asks [
        | inl long ↦
            absurd (false≢true (sym c.if-has_word.false ∙
            c.has_word.ensures.1
            (subst (λ (l : List (List ℕ)). Contains l (codes "--help")) (sym same) long)))
        | inr short ↦ c.has_word-else-has_word.ensures.1
            (subst (λ (l : List (List ℕ)). Contains l (codes "-h")) (sym same) short)
      ],
    )
