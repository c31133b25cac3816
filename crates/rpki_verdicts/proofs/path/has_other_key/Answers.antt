use Rattle.std.specs.Prelude.{is_none}
use Rattle.std.proofs.Common.{rules, ◌≡◌, true, false, length, sym, subst, ◌∙◌}
use Rattle.std.proofs.lemmas.Bool.{false≢true}
use Rattle.std.proofs.lemmas.Bool.Decides.{Decides-eqb}
use Rattle.rpki_verdicts.specs.GivenLocators.{locator_octets}
use Rattle.rpki_verdicts.specs.PathFiles.{QuestionFields}
use Rattle.rpki_verdicts.proofs.FoundLocators.{found_located, never_located, some_octets}
use Rattle.rpki_verdicts.proofs.path.has_other_key.Goals as goal

pub returns-in-Some-clause-other : goal.returns-in-Some-clause-other
returns-in-Some-clause-other c = λ no_place anchor more is.
    let q = c.args.question.now in
    let inside = c.question.inside.locators.now in
    let some : length inside ≡ 0 →
    ⊥ = λ none. false≢true
    (sym c.if-is_empty.false ∙ c.is_empty.ensures ∙ (Decides-eqb (length inside) 0).1 none) in
    let given = subst (λ (f : QuestionFields). length f.locators ≡ 0 → ⊥) c.question.view_is some in
    let none : is_none c.place_of_locator.result ≡ true = search rules in (
      (c.in-Some.field-0.now, c.in-Some.ensures anchor more is),
      never_located q.strict anchor (locator_octets q.locators) c.place_of_locator.result
          (some_octets q.locators given) (c.place_of_locator.ensures anchor more is) none,
    )

pub returns-in-Some-clause-located : goal.returns-in-Some-clause-located
returns-in-Some-clause-located c = λ placed anchor more is begins.
    let q = c.args.question.now in
    let some : is_none c.place_of_locator.result ≡ false = search rules in
    found_located q.strict anchor (locator_octets q.locators) c.place_of_locator.result (c.place_of_locator.ensures anchor more is) some
