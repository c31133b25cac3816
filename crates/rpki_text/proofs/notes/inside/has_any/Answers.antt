use Rattle.std.proofs.Common.{◌≡◌, ◌∙◌, ℕ, Bool, List, true, false, sym}
use Rattle.rpki_der.specs.Place.{remaining}
use Rattle.rpki_text.proofs.AnyValues.{none_tested, one_tested}
use Rattle.rpki_text.proofs.Gathered.{value_shrinks}
use Rattle.rpki_text.proofs.notes.inside.has_any.Goals as goal

pub loop-inside-smaller : goal.loop-inside-smaller
loop-inside-smaller g c = value_shrinks c.args.identifier (remaining c.loop-inside.rest) (remaining c.in-Some.inside)
    (remaining c.content.new.cursor) (sym c.in-Some.ensures)

pub loop-inside-preserved : goal.loop-inside-preserved
loop-inside-preserved g c =
    let p : List ℕ → Bool = g.T.Test.passes in
    let one = one_tested p c.args.identifier (remaining c.loop-inside.rest) (remaining c.in-Some.inside)
    (remaining c.content.new.cursor) (sym c.in-Some.ensures) in
    let fails : p (remaining c.in-Some.inside) ≡ false = sym c.is_passed.ensures ∙ c.if-is_passed.false in
    c.loop-inside.invariant ∙ (rw fails at one)

pub returns-then-is_passed : goal.returns-then-is_passed
returns-then-is_passed g c =
    let p : List ℕ → Bool = g.T.Test.passes in
    let one = one_tested p c.args.identifier (remaining c.loop-inside.rest) (remaining c.in-Some.inside)
    (remaining c.content.new.cursor) (sym c.in-Some.ensures) in
    let passes : p (remaining c.in-Some.inside) ≡ true = sym c.is_passed.ensures ∙ c.if-is_passed.true in
    sym (c.loop-inside.invariant ∙ (rw passes at one))

pub returns : goal.returns
returns g c =
    let p : List ℕ → Bool = g.T.Test.passes in
    sym (c.loop-inside.invariant ∙ none_tested p c.args.identifier (remaining c.loop-inside.rest) (sym c.in_default.ensures))
