use Rattle.std.specs.Borrow.{Bor}
use Rattle.std.specs.BTreeSet.{contains}
use Rattle.std.specs.Cmp.Lexicographic.{slice_cmp}
use Rattle.std.specs.Ordering.{nat_cmp}
use Rattle.std.proofs.Common.{◌≡◌, ◌∙◌, ◌∷◌, [], Bool, List, ℕ, refl, sym, subst, true, false}
use Rattle.std.proofs.lemmas.Bool.{false≢true}
use Rattle.rpki_der.specs.Extensions.Views.{extension_view}
use Rattle.rpki_der.specs.Place.{Place, remaining}
use Rattle.rpki_der.proofs.ExtensionReads.{extension_shrinks}
use Rattle.rpki_text.proofs.TwiceThere.{IsLeftAfter, all_left, first_again, goes_on_after, is_there, none_again}
use Rattle.rpki_text.proofs.TwiceThere.{none_before, not_there, one_before}
use Rattle.rpki_text.proofs.notes.repeated.has_again.Goals as goal

pub loop-extension-init : goal.loop-extension-init
loop-extension-init c = (
  [],
  none_before c.new-before.result c.new-before.ensures.empty,
  subst (λ (p : Place). IsLeftAfter [] (remaining c.args.elements.now) (remaining p)) (sym c.fork-rest.ensures.same)
      (all_left (remaining c.args.elements.now)),
)

pub loop-extension-smaller : goal.loop-extension-smaller
loop-extension-smaller c = extension_shrinks (remaining c.loop-extension.rest) (extension_view c.in-Some.extension)
    (remaining c.next_extension.new.cursor) (sym c.in-Some.ensures)

pub loop-extension-preserved : goal.loop-extension-preserved
loop-extension-preserved c =
    let x = extension_view c.in-Some.extension in
    let (before, has, left) = c.loop-extension.invariant in
    let key : Bor (List ℕ) = c.in-Some.extension.0 in
    let there : Bool = contains (λ x y. slice_cmp nat_cmp x.now y.now) c.loop-extension.before key in
    let fresh : there ≡ false = not_there there c.in-Ok.is_new c.in-Ok.ensures.added c.if-not-is_new.false in (
      x.identifier ∷ before,
      one_before before c.loop-extension.before c.insert.new.self key has c.in-Ok.ensures.updates.0,
      goes_on_after before (remaining c.args.elements.now) (remaining c.loop-extension.rest) left x
          (remaining c.next_extension.new.cursor) (sym c.in-Some.ensures)
          (λ again. false≢true (sym fresh ∙ has key ∙ again)),
    )

pub returns-then-not-is_new : goal.returns-then-not-is_new
returns-then-not-is_new c xs are =
    let x = extension_view c.in-Some.extension in
    let (before, has, left) = c.loop-extension.invariant in
    let key : Bor (List ℕ) = c.in-Some.extension.0 in
    let there : Bool = contains (λ x y. slice_cmp nat_cmp x.now y.now) c.loop-extension.before key in
    let old : there ≡ true = is_there there c.in-Ok.is_new c.in-Ok.ensures.added c.if-not-is_new.true in
    let again = first_again before (remaining c.args.elements.now) (remaining c.loop-extension.rest) left x
    (remaining c.next_extension.new.cursor) (sym c.in-Some.ensures) (sym (has key) ∙ old) xs are in
    ((λ yes. again), (λ one. refl))

pub returns : goal.returns
returns c xs are =
    let (before, has, left) = c.loop-extension.invariant in
    let none = none_again before (remaining c.args.elements.now) (remaining c.loop-extension.rest) left (sym c.in_default.ensures) xs are in
    ((λ yes. absurd (false≢true yes)), (λ one. absurd (none one)))
