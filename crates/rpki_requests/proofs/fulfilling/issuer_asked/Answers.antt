use Rattle.std.specs.Prelude.{IfErr, IfOk, Option}
use Rattle.std.proofs.Common.{◌≡◌, ◌≢◌, ℕ, List, rules, subst}
use Rattle.rpki_cert.specs.Verification.{ResourceFields}
use Rattle.rpki_files.specs.Files.{contents}
use Rattle.rpki_requests.specs.Fulfilment.{context_of}
use Rattle.rpki_requests.specs.Refusals.{TellsPath}
use Rattle.rpki_requests.specs.RequestFiles.{IsRequestIssuer, IsOnlyIssuer}
use Rattle.rpki_requests.specs.RequestWords.Views.{asked_fields}
use Rattle.rpki_requests.specs.declared.refusals.Refusal.TheVariants.{Memory}
use Rattle.rpki_requests.proofs.fulfilling.issuer_asked.Goals as goal

pub returns-clause-issuer : goal.returns-clause-issuer
returns-clause-issuer c =
    let x = context_of (asked_fields c.args.order.now) c.args.at in
    let issuers : contents c.inputs.inside.issuers.now ≡ c.args.inputs.now.issuers = search rules in
    let lists : contents c.inputs.inside.lists.now ≡ c.args.inputs.now.lists = search rules in
    subst (λ (l : List (List ℕ)). IfOk c.issuer_of.result (IsRequestIssuer x c.args.inputs.now.issuers l)) lists
    (subst (λ (f : List (List ℕ)). IfOk c.issuer_of.result (IsRequestIssuer x f (contents c.inputs.inside.lists.now)))
    issuers c.issuer_of.ensures.issuer)

pub returns-clause-only : goal.returns-clause-only
returns-clause-only c =
    let x = context_of (asked_fields c.args.order.now) c.args.at in
    let issuers : contents c.inputs.inside.issuers.now ≡ c.args.inputs.now.issuers = search rules in
    let lists : contents c.inputs.inside.lists.now ≡ c.args.inputs.now.lists = search rules in
    subst (λ (l : List (List ℕ)). IfOk c.issuer_of.result (IsOnlyIssuer x c.args.inputs.now.issuers l)) lists
    (subst (λ (f : List (List ℕ)). IfOk c.issuer_of.result (IsOnlyIssuer x f (contents c.inputs.inside.lists.now)))
    issuers c.issuer_of.ensures.only)

pub returns-clause-none : goal.returns-clause-none
returns-clause-none c =
    let x = context_of (asked_fields c.args.order.now) c.args.at in
    let issuers : contents c.inputs.inside.issuers.now ≡ c.args.inputs.now.issuers = search rules in
    let lists : contents c.inputs.inside.lists.now ≡ c.args.inputs.now.lists = search rules in
    subst (λ (l : List (List ℕ)). IfErr c.issuer_of.result (λ why. why ≢ Memory → (issuer : Option ResourceFields) →
    IsRequestIssuer x c.args.inputs.now.issuers l issuer → ⊥)) lists
    (subst (λ (f : List (List ℕ)). IfErr c.issuer_of.result (λ why. why ≢ Memory →
    (issuer : Option ResourceFields) → IsRequestIssuer x f (contents c.inputs.inside.lists.now) issuer →
    ⊥)) issuers c.issuer_of.ensures.none)

pub returns-clause-told : goal.returns-clause-told
returns-clause-told c =
    let x = context_of (asked_fields c.args.order.now) c.args.at in
    let issuers : contents c.inputs.inside.issuers.now ≡ c.args.inputs.now.issuers = search rules in
    let lists : contents c.inputs.inside.lists.now ≡ c.args.inputs.now.lists = search rules in
    subst (λ (l : List (List ℕ)). IfErr c.issuer_of.result (TellsPath x c.args.inputs.now.issuers l)) lists
    (subst (λ (f : List (List ℕ)). IfErr c.issuer_of.result (TellsPath x f (contents c.inputs.inside.lists.now)))
    issuers c.issuer_of.ensures.told)
