use Rattle.std.proofs.Common.{◌≡◌, ◌+◌, ◌-◌, ◌++◌, ◌∷◌, [], ℕ, false, map, option_map, refl, sym, ap, subst, ◌∙◌, arith}
use Rattle.std.proofs.lemmas.Option.{slice_get-map, slice_get_read}
use Rattle.std.specs.Prelude.{Option, MatchOption}
use Rattle.rpki_verdicts.specs.Searches.{HasNoIssuer, IsAcceptedAt, IsShownAbove, files_at}
use Rattle.rpki_verdicts.specs.ShownPaths.{placed_of}
use Rattle.rpki_verdicts.proofs.FilesAbove.{Adds, HasIssuerAt, adds_none, adds_no_issuer, adds_accepted, adds_top, adds_named}
use Rattle.rpki_verdicts.proofs.search.Search.+push_above.Goals as goal

pub returns-then-most-eq0 : goal.returns-then-most-eq0
returns-then-most-eq0 t c =
    let certs = placed_of c.args.self.now.trees.now in
    let tree = c.args.tree.now in
    let file = c.args.file.now in
    let old = map (λ f. f.now) c.args.path.now.items in
    subst (λ (n : ℕ). Adds certs tree file n old false old) (sym c.if-most-eq0.true) (adds_none certs tree file old)

pub returns-in_default : goal.returns-in_default
returns-in_default t c =
    let certs = placed_of c.args.self.now.trees.now in
    let tree = c.args.tree.now in
    let file = c.args.file.now in
    let more : c.args.most - 1 + 1 ≡ c.args.most = omega (arith, c.if-most-eq0.false) in
    let none = subst (λ (o : Option ℕ). MatchOption o (HasNoIssuer tree file) (HasIssuerAt tree file)) c.in_default.is
    c.issuer_of.ensures.issuer in
    adds_no_issuer certs tree file (c.args.most - 1) c.args.most more (map (λ f. f.now) c.args.path.now.items) none

pub returns-in-Some-2 : goal.returns-in-Some-2
returns-in-Some-2 t c =
    let certs = placed_of c.args.self.now.trees.now in
    let tree = c.args.tree.now in
    let place = c.in-Some.place in
    let old = map (λ f. f.now) c.args.path.now.items in
    let mid = map (λ f. f.now) c.push_down.new.path.items in
    let new = map (λ f. f.now) c.push_one.new.path.items in
    let more : c.args.most - 1 + 1 ≡ c.args.most = omega (arith, c.if-most-eq0.false) in
    let line : IsShownAbove certs tree place c.in-Some-2.above.now = rw c.in-Some-2.is at c.in_ok-above.ensures in
    adds_accepted certs tree c.args.file.now (c.args.most - 1) c.args.most more old place c.in-Some.ensures.issuer mid new
    (c.in_ok-push_one.ensures ∙ ap (λ l. mid ++ files_at (map (λ f. f.now) l) (place ∷ [])) c.deref.ensures.value)
    c.in-Some-2.above.now line c.in_ok-push_down.ensures

pub returns-then-place-tree : goal.returns-then-place-tree
returns-then-place-tree t c =
    let certs = placed_of c.args.self.now.trees.now in
    let tree = c.args.tree.now in
    let place = c.in-Some.place in
    let old = map (λ f. f.now) c.args.path.now.items in
    let new = map (λ f. f.now) c.push_one-then-place-tree.new.path.items in
    let more : c.args.most - 1 + 1 ≡ c.args.most = omega (arith, c.if-most-eq0.false) in
    let line : IsAcceptedAt tree place → ⊥ = rw c.in_default-2.is at c.in_ok-above.ensures in
    adds_top certs tree c.args.file.now (c.args.most - 1) c.args.most more old place c.in-Some.ensures.issuer old new
    (c.in_ok-push_one-2.ensures ∙ ap (λ l. old ++ files_at (map (λ f. f.now) l) (place ∷ []))
    c.deref-then-place-tree.ensures.value) c.if-place-tree.true line refl

pub returns : goal.returns
returns t c =
    let certs = placed_of c.args.self.now.trees.now in
    let tree = c.args.tree.now in
    let files = tree.certs.items in
    let place = c.in-Some.place in
    let old = map (λ f. f.now) c.args.path.now.items in
    let mid = map (λ f. f.now) c.push_above.new.path.items in
    let new = map (λ f. f.now) c.push_one-2.new.path.items in
    let more : c.args.most - 1 + 1 ≡ c.args.most = omega (arith, c.if-most-eq0.false) in
    let line : IsAcceptedAt tree place → ⊥ = rw c.in_default-2.is at c.in_ok-above.ensures in
    let there = slice_get-map (λ f. f.now) files place ∙
    ap (option_map (λ f. f.now))
    (slice_get_read files _ place c.index.result.now refl c.in-Some.ensures.place c.index.ensures) in
    let pushed = c.in_ok-reach.ensures in
    adds_named certs tree c.args.file.now (c.args.most - 1) c.args.most more old place c.in-Some.ensures.issuer mid new
    (c.in_ok-push_one-3.ensures ∙ ap (λ l. mid ++ files_at (map (λ f. f.now) l) (place ∷ [])) c.deref-2.ensures.value)
    c.index.result.now.now there line c.if-place-tree.false pushed.0 c.in_ok-reach.reach pushed.1 pushed.2
