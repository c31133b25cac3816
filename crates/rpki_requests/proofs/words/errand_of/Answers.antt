use Rattle.std.proofs.Common.{rules, ◌≡◌, ◌∷◌, ◌∙◌, [], List, ℕ, ap, codes, inl, inr, sym}
use Rattle.std.proofs.lemmas.Bool.{true≢false}
use Rattle.rpki_text.specs.CommandLines.Views.{word_octets}
use Rattle.rpki_requests.proofs.words.errand_of.Goals as goal

pub returns-then-not-is-clause-told : goal.returns-then-not-is-clause-told
returns-then-not-is-clause-told c =
    let behind = word_octets c.in-Some.behind.now in
    let split : word_octets c.args.words.now ≡ c.as_slice-then-not-is.result.now ∷ behind = search rules in
    inl (
      behind,
      split,
      (λ is. true≢false (sym
          (c.is-2.ensures.1 (c.as_slice-2.ensures.value ∙ sym c.as_slice-then-not-is.ensures.value ∙ is)) ∙
          c.if-not-is.true)),
      (λ is. true≢false (sym
          (c.is.ensures.1 (c.as_slice.ensures.value ∙ sym c.as_slice-then-not-is.ensures.value ∙ is)) ∙
          c.if-is.false)),
    )

pub returns-in-None-clause-told : goal.returns-in-None-clause-told
returns-in-None-clause-told c =
    let rest = word_octets c.in-Some-split_first.rest.now in
    let second = c.as_slice-in-None.result.now in
    let first_is : c.as_slice-2.result.now ≡ codes "prepare" = c.is-2.ensures.0 c.if-not-is.false in
    let split : word_octets c.args.words.now ≡ c.as_slice-2.result.now ∷ second ∷ rest = search rules in
    inr (
      rest,
      split ∙ ap (λ (w : List ℕ). w ∷ second ∷ rest) first_is,
      (λ errand is. c.in-None.ensures.unknown errand
          (is ∙ ap (λ (w : List ℕ). codes "prepare" ∷ w ∷ [])
          (c.as_slice-in-None.ensures.value ∙ sym c.as_slice-3.ensures.value))),
    )
