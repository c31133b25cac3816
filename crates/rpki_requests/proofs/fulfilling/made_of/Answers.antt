use Rattle.std.specs.Prelude.{IfErr}
use Rattle.std.proofs.Common.{◌≡◌, ◌≢◌, ◌∙◌, sym, subst}
use Rattle.rpki_requests.specs.Fulfilment.{FulfilsAs}
use Rattle.rpki_requests.specs.RequestWords.Views.{asked_fields}
use Rattle.rpki_requests.specs.declared.fulfilling.Made.{Made}
use Rattle.rpki_requests.specs.declared.refusals.Refusal.TheVariants.{Memory}
use Rattle.rpki_requests.specs.declared.words.Errand.{Errand}
use Rattle.rpki_requests.specs.declared.words.Errand.TheVariants as errand
use Rattle.rpki_requests.proofs.fulfilling.made_of.Goals as goal

pub returns-in-Authority-clause-refused : goal.returns-in-Authority-clause-refused
returns-in-Authority-clause-refused c =
    subst (λ (errand : Errand). IfErr c.prepared.result (λ why. why ≢ Memory → (given : Made) →
    FulfilsAs errand (asked_fields c.args.order.now) c.args.inputs.now c.args.at given →
    ⊥)) (sym c.in-Authority.is) c.prepared.ensures.refused

pub returns-in-EndEntity-clause-refused : goal.returns-in-EndEntity-clause-refused
returns-in-EndEntity-clause-refused c =
    subst (λ (errand : Errand). IfErr c.prepared-in-EndEntity.result (λ why. why ≢ Memory → (given : Made) →
    FulfilsAs errand (asked_fields c.args.order.now) c.args.inputs.now c.args.at given →
    ⊥)) (sym c.in-EndEntity.is) c.prepared-in-EndEntity.ensures.refused

pub returns-in-Detached-clause-refused : goal.returns-in-Detached-clause-refused
returns-in-Detached-clause-refused c =
    subst (λ (errand : Errand). IfErr c.prepared-in-Detached.result (λ why. why ≢ Memory → (given : Made) →
    FulfilsAs errand (asked_fields c.args.order.now) c.args.inputs.now c.args.at given →
    ⊥)) (sym c.in-Detached.is) c.prepared-in-Detached.ensures.refused

pub returns-in-Router-clause-refused : goal.returns-in-Router-clause-refused
returns-in-Router-clause-refused c =
    subst (λ (errand : Errand). IfErr c.prepared-in-Router.result (λ why. why ≢ Memory → (given : Made) →
    FulfilsAs errand (asked_fields c.args.order.now) c.args.inputs.now c.args.at given →
    ⊥)) (sym c.in-Router.is) c.prepared-in-Router.ensures.refused

pub returns-in-Anchor-clause-refused : goal.returns-in-Anchor-clause-refused
returns-in-Anchor-clause-refused c =
    subst (λ (errand : Errand). IfErr c.prepared-in-Anchor.result (λ why. why ≢ Memory → (given : Made) →
    FulfilsAs errand (asked_fields c.args.order.now) c.args.inputs.now c.args.at given →
    ⊥)) (sym c.in-Anchor.is) c.prepared-in-Anchor.ensures.refused

pub returns-in-Completion-clause-refused : goal.returns-in-Completion-clause-refused
returns-in-Completion-clause-refused c =
    subst (λ (errand : Errand). IfErr c.completed.result (λ why. why ≢ Memory → (given : Made) →
    FulfilsAs errand (asked_fields c.args.order.now) c.args.inputs.now c.args.at given →
    ⊥)) (sym c.in-Completion.is) c.completed.ensures.refused

pub returns-in-Authority-clause-accepted : goal.returns-in-Authority-clause-accepted
returns-in-Authority-clause-accepted c = λ done.
    let both : errand.Authority ≡ errand.Completion = sym c.in-Authority.is ∙ done in
    absurd (cc both)

pub returns-in-EndEntity-clause-accepted : goal.returns-in-EndEntity-clause-accepted
returns-in-EndEntity-clause-accepted c = λ done.
    let both : errand.EndEntity ≡ errand.Completion = sym c.in-EndEntity.is ∙ done in
    absurd (cc both)

pub returns-in-Detached-clause-accepted : goal.returns-in-Detached-clause-accepted
returns-in-Detached-clause-accepted c = λ done.
    let both : errand.Detached ≡ errand.Completion = sym c.in-Detached.is ∙ done in
    absurd (cc both)

pub returns-in-Router-clause-accepted : goal.returns-in-Router-clause-accepted
returns-in-Router-clause-accepted c = λ done.
    let both : errand.Router ≡ errand.Completion = sym c.in-Router.is ∙ done in
    absurd (cc both)

pub returns-in-Anchor-clause-accepted : goal.returns-in-Anchor-clause-accepted
returns-in-Anchor-clause-accepted c = λ done.
    let both : errand.Anchor ≡ errand.Completion = sym c.in-Anchor.is ∙ done in
    absurd (cc both)

pub returns-in-RevocationList-clause-accepted : goal.returns-in-RevocationList-clause-accepted
returns-in-RevocationList-clause-accepted c = λ done.
    let both : errand.RevocationList ≡ errand.Completion = sym c.in-RevocationList.is ∙ done in
    absurd (cc both)
