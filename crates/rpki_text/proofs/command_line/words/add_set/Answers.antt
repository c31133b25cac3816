use Rattle.std.proofs.Common.{rules, ◌≡◌, ◌++◌, ◌∷◌, [], ℕ, List, Err, inl, inr, refl}
use Rattle.std.proofs.lemmas.Result.{IfErr-weaker}
use Rattle.rpki_text.specs.declared.command_line.arguments.Setting.TheVariants.{At, Crl, Tal, In}
use Rattle.rpki_text.specs.CommandLines.{list, locator, folder, depth, steps, at_moment}
use Rattle.rpki_text.specs.CommandLines.Views.{fields_of}
use Rattle.rpki_text.proofs.AddedParts.{value_pushed}
use Rattle.rpki_text.proofs.WrongWords.{no_moment, value_told}
use Rattle.rpki_text.proofs.command_line.words.add_set.Goals as goal

pub returns-in-Crl-clause-added : goal.returns-in-Crl-clause-added
returns-in-Crl-clause-added c =
    let old = fields_of c.args.request.now in
    let value = c.args.value.now in
    rw c.in-Crl.is (value_pushed c.push_name.result old Crl value (list value) refl
    (λ (l : List (List ℕ)). record old { lists = l }) _ (old.lists ++ value ∷ []) refl
    c.push_name.ensures.added)

pub returns-in-Tal-clause-added : goal.returns-in-Tal-clause-added
returns-in-Tal-clause-added c =
    let old = fields_of c.args.request.now in
    let value = c.args.value.now in
    rw c.in-Tal.is (value_pushed c.push_name-in-Tal.result old Tal value (locator value) refl
    (λ (l : List (List ℕ)). record old { locators = l }) _ (old.locators ++ value ∷ []) refl
    c.push_name-in-Tal.ensures.added)

pub returns-in-In-clause-added : goal.returns-in-In-clause-added
returns-in-In-clause-added c =
    let old = fields_of c.args.request.now in
    let value = c.args.value.now in
    rw c.in-In.is (value_pushed c.push_name-in-In.result old In value (folder value) refl
    (λ (l : List (List ℕ)). record old { folders = l }) _ (old.folders ++ value ∷ []) refl
    c.push_name-in-In.ensures.added)

pub returns-in-Some-clause-added : goal.returns-in-Some-clause-added
returns-in-Some-clause-added c =
    let m = c.in-Some.moment in
    let is = c.in-Some.ensures.some in
    rw c.in-At.is (at_moment m, (m, refl, is.0, is.1), refl)

pub returns-in_ok-count_of-in-Depth-clause-added : goal.returns-in_ok-count_of-in-Depth-clause-added
returns-in_ok-count_of-in-Depth-clause-added c =
    let n = c.in_ok-count_of-in-Depth.field-0 in
    rw c.in-Depth.is (depth n, (n, refl, c.in_ok-count_of-in-Depth.ensures.number), refl)

pub returns-in_ok-count_of-in-StepCount-clause-added : goal.returns-in_ok-count_of-in-StepCount-clause-added
returns-in_ok-count_of-in-StepCount-clause-added c =
    let n = c.in_ok-count_of-in-StepCount.field-0 in
    rw c.in-StepCount.is (steps n, (n, refl, c.in_ok-count_of-in-StepCount.ensures.number), refl)

pub returns-in-MaxSize-clause-added : goal.returns-in-MaxSize-clause-added
returns-in-MaxSize-clause-added c = rw c.in-MaxSize.is c.add_size.ensures.added

pub returns-in-MaxSize-clause-told : goal.returns-in-MaxSize-clause-told
returns-in-MaxSize-clause-told c =
    rw c.in-MaxSize.is (IfErr-weaker c.add_size.result _ _ (λ e tells not_memory. tells) c.add_size.ensures.told)

pub returns-in-Output-clause-told : goal.returns-in-Output-clause-told
returns-in-Output-clause-told c =
    IfErr-weaker c.add_format.result _ _ (λ e tells not_memory. tells (c.in-Output.is)) c.add_format.ensures.told

pub returns-in_err-count_of-in-Depth-clause-told : goal.returns-in_err-count_of-in-Depth-clause-told
returns-in_err-count_of-in-Depth-clause-told c =
    let is : c.from_residual.result ≡ Err c.in_err-count_of-in-Depth.field-0.0 = search rules in
    rw is (λ not_memory. c.in_err-count_of-in-Depth.ensures.told (inl c.in-Depth.is))

pub returns-in_err-count_of-in-StepCount-clause-told : goal.returns-in_err-count_of-in-StepCount-clause-told
returns-in_err-count_of-in-StepCount-clause-told c =
    let is : c.from_residual-in_err-count_of-in-StepCount.result ≡ Err c.in_err-count_of-in-StepCount.field-0.0 = search rules in
    rw is (λ not_memory. c.in_err-count_of-in-StepCount.ensures.told (inr c.in-StepCount.is))

pub returns-in-None-clause-told : goal.returns-in-None-clause-told
returns-in-None-clause-told c =
    rw c.in-At.is (λ not_memory. value_told At c.args.value (no_moment c.args.value.now c.in-None.ensures.none))

pub returns-in-Only-clause-added : goal.returns-in-Only-clause-added
returns-in-Only-clause-added c = rw c.in-Only.is c.add_only.ensures.added

pub returns-in-Only-clause-told : goal.returns-in-Only-clause-told
returns-in-Only-clause-told c =
    rw c.in-Only.is (IfErr-weaker c.add_only.result _ _ (λ e tells not_memory. tells) c.add_only.ensures.told)
