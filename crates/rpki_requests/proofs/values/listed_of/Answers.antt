use Rattle.std.specs.Prelude.{map}
use Rattle.std.proofs.Common.{◌≡◌, ℕ, List, Bor, refl, sym, ap, subst, ◌∙◌}
use Rattle.rpki_blocks.specs.Resources.{Resources}
use Rattle.rpki_issuing.specs.BlockTexts.{AreListed}
use Rattle.rpki_issuing.specs.OnlyValues.{IsOnly}
use Rattle.rpki_requests.specs.RequestWords.{given_values}
use Rattle.rpki_requests.specs.RequestWords.Views.{given_fields}
use Rattle.rpki_requests.proofs.values.listed_of.Goals as goal

pub returns-in-Some : goal.returns-in-Some
returns-in-Some g c =
    let texts : map (λ (t : Bor (List ℕ)). t.now) c.deref.result.now ≡
    given_values c.args.setting (map given_fields c.args.order.now.given.items) =
    ap (λ (l : List (Bor (List ℕ))). map (λ (t : Bor (List ℕ)). t.now) l) c.deref.ensures.value ∙
    c.in_ok-texts.ensures in
    subst (λ (l : List (List ℕ)). IsOnly (λ (r : Resources). AreListed g.T.BlockText.is_text r l)
    c.in-Some.resources) texts (rw c.in-Some.is at c.in_ok-resources.ensures)

pub returns-in-None : goal.returns-in-None
returns-in-None g c =
    let texts : map (λ (t : Bor (List ℕ)). t.now) c.deref.result.now ≡
    given_values c.args.setting (map given_fields c.args.order.now.given.items) =
    ap (λ (l : List (Bor (List ℕ))). map (λ (t : Bor (List ℕ)). t.now) l) c.deref.ensures.value ∙
    c.in_ok-texts.ensures in
    let none = rw c.in-None.is at c.in_ok-resources.ensures in
    (refl, λ not v h. none v (subst (λ (l : List (List ℕ)). AreListed g.T.BlockText.is_text v l) (sym texts) h))
