use Rattle.std.specs.Prelude.{codes}
use Rattle.std.proofs.Common.{◌≡◌, ℕ, map, get_or, inl, inr, sym, subst, ◌∙◌, arith}
use Rattle.std.proofs.lemmas.Bool.{cases_eq, false≢true}
use Rattle.std.proofs.lemmas.List.{get_or-map}
use Rattle.rpki_text.proofs.command_line.suiting.names_input.Goals as goal

pub loop-name-preserved : goal.loop-name-preserved
loop-name-preserved c = λ k low same.
    let names = c.args.names.now in
    let i = c.loop-name.name-index in
    let input = codes "-" in
    elim (cases_eq k i) [
      | inl here ↦
          let there : get_or (map (λ name. name.now) names) i input ≡ input =
          subst (λ (n : ℕ). get_or (map (λ name. name.now) names) n input ≡ input) here same in
          false≢true (sym c.if-is.false ∙
          c.is.ensures.1 (sym (get_or-map (λ name. name.now) names i _ input c.loop-name-test.true) ∙ there))
      | inr other ↦ c.loop-name.invariant k (omega (arith, low, other)) same
    ]
