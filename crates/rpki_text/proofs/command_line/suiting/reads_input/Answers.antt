use Rattle.std.proofs.Common.{◌≡◌, Bor, List, ℕ, map, inl, inr, sym, subst, ◌∙◌}
use Rattle.std.proofs.lemmas.Bool.{false≢true}
use Rattle.rpki_text.specs.CommandLines.{NamesInput}
use Rattle.rpki_text.proofs.command_line.suiting.reads_input.Goals as goal

-- of names that are the same
same : (names others : List (Bor (List ℕ))) → names ≡ others →
    NamesInput (map (λ (name : Bor (List ℕ)). name.now) names) →
    NamesInput (map (λ (name : Bor (List ℕ)). name.now) others)
same names others is h = subst (λ (l : List (Bor (List ℕ))). NamesInput (map (λ (name : Bor (List ℕ)). name.now) l)) is h

pub returns : goal.returns
returns c = (
  (λ is. inr (inr (same _ _ c.deref-3.ensures.value (c.names_input-3.ensures.0 is)))),
  (λ reads. elim reads [
    | inl h ↦ absurd (false≢true (sym c.if-names_input.false ∙ c.names_input.ensures.1 (same _ _ (sym c.deref.ensures.value) h)))
    | inr h ↦ elim h [
      | inl k ↦ absurd (false≢true (sym c.if-names_input-2.false ∙ c.names_input-2.ensures.1 (same _ _ (sym c.deref-2.ensures.value) k)))
      | inr k ↦ c.names_input-3.ensures.1 (same _ _ (sym c.deref-3.ensures.value) k)
    ]
  ]),
)
