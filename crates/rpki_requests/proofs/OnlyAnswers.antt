-- Answers that are the only ones, joined.
use Rattle.std.specs.Prelude.{Result, Ok, Err, IfOk, IfErr}
use Rattle.std.proofs.Common.{◌≡◌, ◌≢◌, ◌⊎◌, inl, inr, subst}
use Rattle.rpki_issuing.specs.OnlyValues.{IsOnly}
use Rattle.rpki_requests.specs.Refusals.{AnswersOnly, AnswersOnlyBy}
use Rattle.rpki_requests.specs.declared.refusals.Refusal.{Refusal}
use Rattle.rpki_requests.specs.declared.refusals.Refusal.TheVariants.{Memory}

-- what an answer says once it is known
pub when_ok : {A : Type 0} (MayBe : Refusal → Type 0) (Is : A → Type 0) (r : Result A Refusal) (a : A) → r ≡ Ok a →
    AnswersOnly MayBe Is r → IsOnly Is a
when_ok {A = A} MayBe Is r a is only = subst (λ (s : Result A Refusal). AnswersOnly MayBe Is s) is only

pub when_err : {A : Type 0} (MayBe : Refusal → Type 0) (Is : A → Type 0) (r : Result A Refusal) (why : Refusal) →
    r ≡ Err why → AnswersOnly MayBe Is r → MayBe why × (why ≢ Memory → (a : A) → Is a → ⊥)
when_err {A = A} MayBe Is r why is only = subst (λ (s : Result A Refusal). AnswersOnly MayBe Is s) is only

-- two answers that are the only ones are the only two
pub both_only : {A B : Type 0} (MayBe : Refusal → Type 0) (IsA : A → Type 0) (IsB : B → Type 0)
    (first : Result A Refusal) (second : Result B Refusal) (r : Result (A × B) Refusal) →
    IfOk r (λ p. (first ≡ Ok p.0) × (second ≡ Ok p.1)) → IfErr r (λ why. (first ≡ Err why) ⊎ (second ≡ Err why)) →
    AnswersOnly MayBe IsA first → AnswersOnly MayBe IsB second →
    AnswersOnly MayBe (λ (p : A × B). IsA p.0 × IsB p.1) r
both_only {A = A} {B = B} MayBe IsA IsB first second (Ok p) are why a b =
    let one = when_ok MayBe IsA first p.0 are.0 a in
    let other = when_ok MayBe IsB second p.1 are.1 b in
    ((one.0, other.0), λ q h. λ i. (one.1 q.0 h.0 i, other.1 q.1 h.1 i))
both_only {A = A} {B = B} MayBe IsA IsB first second (Err why) are (inl is) a b =
    let none = when_err MayBe IsA first why is a in (none.0, λ not q h. none.1 not q.0 h.0)
both_only {A = A} {B = B} MayBe IsA IsB first second (Err why) are (inr is) a b =
    let none = when_err MayBe IsB second why is b in (none.0, λ not q h. none.1 not q.1 h.1)

-- and what may be told in place of it
pub may_be : {A : Type 0} (MayBe Other : Refusal → Type 0) (Is : A → Type 0) (r : Result A Refusal) →
    ((why : Refusal) → MayBe why → Other why) → AnswersOnly MayBe Is r → AnswersOnly Other Is r
may_be MayBe Other Is (Ok a) also answers = answers
may_be MayBe Other Is (Err why) also answers = (also why answers.0, answers.1)

-- the same of answers that are seen by views
pub may_be_by : {X V : Type 0} (MayBe Other : Refusal → Type 0) (view : X → V) (Is : V → Type 0)
    (r : Result X Refusal) → ((why : Refusal) → MayBe why → Other why) → AnswersOnlyBy MayBe view Is r →
    AnswersOnlyBy Other view Is r
may_be_by MayBe Other view Is (Ok x) also answers = answers
may_be_by MayBe Other view Is (Err why) also answers = (also why answers.0, answers.1)

pub both_only_by : {X Y A B : Type 0} (MayBe : Refusal → Type 0) (view : X → A) (look : Y → B) (IsA : A → Type 0)
    (IsB : B → Type 0) (first : Result X Refusal) (second : Result Y Refusal) (r : Result (X × Y) Refusal) →
    IfOk r (λ p. (first ≡ Ok p.0) × (second ≡ Ok p.1)) → IfErr r (λ why. (first ≡ Err why) ⊎ (second ≡ Err why)) →
    AnswersOnlyBy MayBe view IsA first → AnswersOnlyBy MayBe look IsB second →
    AnswersOnlyBy MayBe (λ (p : X × Y). (view p.0, look p.1)) (λ (p : A × B). IsA p.0 × IsB p.1) r
both_only_by {X = X} {Y = Y} MayBe view look IsA IsB first second (Ok p) are why a b =
    let one = subst (λ (s : Result X Refusal). AnswersOnlyBy MayBe view IsA s) are.0 a in
    let other = subst (λ (s : Result Y Refusal). AnswersOnlyBy MayBe look IsB s) are.1 b in
    ((one.0, other.0), λ q h. λ i. (one.1 q.0 h.0 i, other.1 q.1 h.1 i))
both_only_by {X = X} {Y = Y} MayBe view look IsA IsB first second (Err why) are (inl is) a b =
    let none = subst (λ (s : Result X Refusal). AnswersOnlyBy MayBe view IsA s) is a in
    (none.0, λ not q h. none.1 not q.0 h.0)
both_only_by {X = X} {Y = Y} MayBe view look IsA IsB first second (Err why) are (inr is) a b =
    let none = subst (λ (s : Result Y Refusal). AnswersOnlyBy MayBe look IsB s) is b in
    (none.0, λ not q h. none.1 not q.1 h.1)

-- what such an answer says once it is known
pub by_ok : {X V : Type 0} (MayBe : Refusal → Type 0) (view : X → V) (Is : V → Type 0) (r : Result X Refusal)
    (x : X) → r ≡ Ok x → AnswersOnlyBy MayBe view Is r → IsOnly Is (view x)
by_ok {X = X} MayBe view Is r x is only = subst (λ (s : Result X Refusal). AnswersOnlyBy MayBe view Is s) is only

pub by_err : {X V : Type 0} (MayBe : Refusal → Type 0) (view : X → V) (Is : V → Type 0) (r : Result X Refusal)
    (why : Refusal) → r ≡ Err why → AnswersOnlyBy MayBe view Is r →
    MayBe why × (why ≢ Memory → (v : V) → Is v → ⊥)
by_err {X = X} MayBe view Is r why is only = subst (λ (s : Result X Refusal). AnswersOnlyBy MayBe view Is s) is only
