use Rattle.std.specs.Prelude.{Some, slice_get}
use Rattle.std.proofs.Common.{◌≡◌, ◌<◌, ◌≤◌, length, refl, sym, subst, ◌∙◌, arith, below_more}
use Rattle.std.proofs.lemmas.Option.{slice_get_read}
use Rattle.rpki_files.specs.LocatorFiles.{AreLocator}
use Rattle.rpki_verdicts.specs.GivenLocators.{LocatorFields}
use Rattle.rpki_verdicts.specs.PathFiles.{QuestionFields}
use Rattle.rpki_verdicts.proofs.ReadLocators.{all_locators, is_locator, no_locator}
use Rattle.rpki_verdicts.proofs.path.first_no_locator.Goals as goal

pub returns-in-Err : goal.returns-in-Err
returns-in-Err c =
    let q = c.args.question.now in
    let inside = c.question.inside.locators.now in
    let i = c.loop-place.place in
    let item = c.locator-item.result in
    let low : i < length inside = omega arith in
    let there = subst (λ (f : QuestionFields). slice_get f.locators i ≡ Some item) c.question.view_is
    (slice_get_read inside (length inside) i item refl low c.locator-item.is) in
    no_locator q.strict q.locators c.requires i item there c.in-Err.fault.now c.no_locator.result c.in-Err.ensures.err
    c.no_locator.ensures.place c.no_locator.ensures.reason c.loop-place.invariant

pub loop-place-preserved : goal.loop-place-preserved
loop-place-preserved c =
    let q = c.args.question.now in
    let inside = c.question.inside.locators.now in
    let i = c.loop-place.place in
    let item = c.locator-item.result in
    let low : i < length inside = omega arith in
    let there = subst (λ (f : QuestionFields). slice_get f.locators i ≡ Some item) c.question.view_is
    (slice_get_read inside (length inside) i item refl low c.locator-item.is) in
    let locator = is_locator q.strict q.locators c.requires i item there c.in_default.field-0.now c.in_default.ensures.ok in
    below_more _ _ c.loop-place.invariant (λ earlier is.
    let both : Some item ≡ Some earlier = sym there ∙ is in
    let same : item ≡ earlier = cc in
    subst (λ (l : LocatorFields). AreLocator q.strict l.file.octets) same locator)

pub returns : goal.returns
returns c =
    let q = c.args.question.now in
    let inside = c.question.inside.locators.now in
    let i = c.loop-place.place in
    let past : length inside ≤ i = omega arith in
    all_locators q.strict q.locators i c.loop-place.invariant
    (subst (λ (f : QuestionFields). length f.locators ≤ i) c.question.view_is past)
