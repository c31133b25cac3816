use Rattle.std.specs.List.{list_any}
use Rattle.std.specs.Str.{bytes_eq}
use Rattle.std.proofs.Common.{◌≡◌, ◌∙◌, ℕ, Bor, List, [], ◌∷◌, map, sym, ap}
use Rattle.std.proofs.lemmas.List.{map-append}
use Rattle.rpki_answers.proofs.TreeRowsInOrder.{any_mapped}
use Rattle.rpki_answers.proofs.tree_document.counts.push_new.Goals as goal

pub returns-then-has_name : goal.returns-then-has_name
returns-then-has_name c =
    let names = c.args.names.now.items in
    let said : c.has_name.result ≡ list_any (λ (one : Bor (List ℕ)). bytes_eq one.now c.args.error.now) names =
    rw c.deref.ensures.value at c.has_name.ensures in
    let is = any_mapped (λ name. bytes_eq name c.args.error.now) (λ (n : Bor (List ℕ)). n.now) names ∙ sym said ∙ c.if-has_name.true in
    rw is

pub returns : goal.returns
returns c =
    let names = c.args.names.now.items in
    let said : c.has_name.result ≡ list_any (λ (one : Bor (List ℕ)). bytes_eq one.now c.args.error.now) names =
    rw c.deref.ensures.value at c.has_name.ensures in
    let is = any_mapped (λ name. bytes_eq name c.args.error.now) (λ (n : Bor (List ℕ)). n.now) names ∙ sym said ∙ c.if-has_name.false in
    rw is (ap (map (λ (n : Bor (List ℕ)). n.now)) c.in_ok-push.ensures.items ∙
    map-append (λ (n : Bor (List ℕ)). n.now) names (c.args.error ∷ []))
