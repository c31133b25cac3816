use Rattle.std.specs.BTreeMap.{get}
use Rattle.std.specs.Cmp.Lexicographic.{slice_cmp}
use Rattle.std.specs.Ordering.{nat_cmp}
use Rattle.std.specs.Prelude.{true, false, Option, None, Some, is_some}
use Rattle.std.proofs.Common.{◌≡◌, ◌∙◌, ℕ, refl, sym}
use Rattle.std.proofs.lemmas.Bool.{false≢true}
use Rattle.rpki_folder.proofs.FirstSteps.{found_more, found_still}
use Rattle.rpki_verdicts.proofs.issuers.add_uri.Goals as goal

there : (o : Option ℕ) → is_some o ≡ true → (p : ℕ) × (o ≡ Some p)
there None is = absurd (false≢true is)
there (Some p) is = (p, refl)

not_there : (o : Option ℕ) → is_some o ≡ false → o ≡ None
not_there None is = refl
not_there (Some p) is = absurd (false≢true (sym is))

pub returns-then-contains_key : goal.returns-then-contains_key
returns-then-contains_key c = λ uris count found.
    let m = c.args.files.now in
    let uri = c.args.uri in
    let has = there (get (slice_cmp nat_cmp) m uri) (sym c.contains_key.ensures ∙ c.if-contains_key.true) in
    found_still uris uri m m found has.0 (sym (found uri) ∙ has.1)

pub returns : goal.returns
returns c = λ uris count found.
    let m = c.args.files.now in
    let uri = c.args.uri in
    let none = not_there (get (slice_cmp nat_cmp) m uri) (sym c.contains_key.ensures ∙ c.if-contains_key.false) in
    found_more uris uri m c.insert.new.self found c.args.place (sym count) (sym (found uri) ∙ none) c.in_ok-insert.ensures.updates.0
