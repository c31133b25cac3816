use Rattle.std.proofs.Common.{◌≡◌, ◌+◌, ◌≤◌, ◌++◌, ◌∷◌, [], ℕ, List, Bor, length, map, take, get_or, refl, rules}
use Rattle.std.proofs.Common.{sym, subst}
use Rattle.std.specs.List.{AllZip}
use Rattle.std.proofs.lemmas.List.{take_all}
use Rattle.rpki_issuing.specs.OnlyValues.{IsOnly}
use Rattle.rpki_issuing.specs.ValueTexts.{IsSerialText}
use Rattle.rpki_issuing.proofs.ZippedTexts.{take_more, only_more, only_none, none_at}
use Rattle.rpki_requests.proofs.lists.serials_said.Goals as goal

pub loop-text-init : goal.loop-text-init
loop-text-init c =
    let none : c.new-serials.result.items ≡ [] = search rules in
    subst (λ (vs : List ℕ). IsOnly (λ (us : List ℕ). AllZip IsSerialText us []) vs) (sym none) (only_none IsSerialText)

pub returns-in_default : goal.returns-in_default
returns-in_default c =
    let d : Bor (List ℕ) = record { ref_ptr = (0, 0); now = [] } in (
      refl,
      λ not. none_at IsSerialText c.args.texts.now c.loop-text.text-index d c.loop-text-test.true
          (rw c.in_default.is at c.in_ok-serial.ensures),
    )

pub loop-text-preserved : goal.loop-text-preserved
loop-text-preserved c =
    let texts = c.args.texts.now in
    let i = c.loop-text.text-index in
    let serials = c.loop-text.serials.items in
    let serial = c.in-Some.serial in
    let d : Bor (List ℕ) = record { ref_ptr = (0, 0); now = [] } in
    let text = (get_or texts i d).now in
    let front = map (λ (t : Bor (List ℕ)). t.now) (take i texts) in
    let said : IsOnly (λ (v : ℕ). IsSerialText v text) serial = rw c.in-Some.is at c.in_ok-serial.ensures in
    let whole : IsOnly (λ (vs : List ℕ). AllZip IsSerialText vs (front ++ text ∷ [])) (serials ++ serial ∷ []) =
    only_more IsSerialText serials front serial text c.loop-text.invariant said in
    let longer = subst (λ (l : List (List ℕ)). IsOnly (λ (vs : List ℕ). AllZip IsSerialText vs l)
    (serials ++ serial ∷ [])) (sym (take_more texts i d c.loop-text-test.true)) whole in
    let pushed : c.push.new.serials.items ≡ serials ++ serial ∷ [] = c.in_ok-push.ensures in
    subst (λ (vs : List ℕ).
    IsOnly (λ (us : List ℕ). AllZip IsSerialText us (map (λ (t : Bor (List ℕ)). t.now) (take (i + 1) texts)))
    vs) (sym pushed) longer

pub returns : goal.returns
returns c =
    let texts = c.args.texts.now in
    let high : length texts ≤ c.loop-text.text-index = c.loop-text-test.false in
    subst (λ (l : List (Bor (List ℕ))).
    IsOnly (λ (vs : List ℕ). AllZip IsSerialText vs (map (λ (t : Bor (List ℕ)). t.now) l))
    c.loop-text.serials.items) (take_all c.loop-text.text-index texts high) c.loop-text.invariant
