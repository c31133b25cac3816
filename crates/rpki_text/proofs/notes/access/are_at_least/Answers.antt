use Rattle.std.proofs.Common.{◌≡◌, ◌+◌, ℕ, Bool, List, true, false, sym, ◌∙◌, arith}
use Rattle.std.proofs.lemmas.Bool.{false≢true}
use Rattle.rpki_der.specs.Place.{remaining}
use Rattle.rpki_der.specs.Tags.{SEQUENCE}
use Rattle.rpki_text.specs.Notes.{has_method}
use Rattle.rpki_text.proofs.CountedValues.{none_counted, one_counted, passing}
use Rattle.rpki_text.proofs.Gathered.{value_shrinks}
use Rattle.rpki_text.proofs.notes.access.are_at_least.Goals as goal

pub returns-in_default : goal.returns-in_default
returns-in_default c =
    let p : List ℕ → Bool = has_method c.args.method in
    let none : passing p SEQUENCE (remaining c.loop-left.rest) ≡ 0 =
    none_counted p SEQUENCE (remaining c.loop-left.rest) (sym c.in_default.ensures) in
    ((λ yes. absurd (false≢true yes)), (λ enough. absurd (omega (arith, none, c.loop-left.invariant.counted))))

pub loop-left-smaller-then-is_in : goal.loop-left-smaller-then-is_in
loop-left-smaller-then-is_in c = value_shrinks SEQUENCE (remaining c.loop-left.rest) (remaining c.in-Some.description)
    (remaining c.content.new.cursor) (sym c.in-Some.ensures)

pub loop-left-preserved-then-is_in : goal.loop-left-preserved-then-is_in
loop-left-preserved-then-is_in c =
    let p : List ℕ → Bool = has_method c.args.method in
    let one = one_counted p SEQUENCE (remaining c.loop-left.rest) (remaining c.in-Some.description)
    (remaining c.content.new.cursor) (sym c.in-Some.ensures) in
    let passes : p (remaining c.in-Some.description) ≡ true = sym c.is_in.ensures ∙ c.if-is_in.true in
    let counts : passing p SEQUENCE (remaining c.loop-left.rest) ≡ 1 +
    passing p SEQUENCE (remaining c.content.new.cursor) = rw passes at one in
    record { counted = omega (arith, counts, c.loop-left.invariant.counted); fewer = omega (arith, c.loop-left.invariant.fewer) }

pub loop-left-smaller : goal.loop-left-smaller
loop-left-smaller c = value_shrinks SEQUENCE (remaining c.loop-left.rest) (remaining c.in-Some.description)
    (remaining c.content.new.cursor) (sym c.in-Some.ensures)

pub loop-left-preserved : goal.loop-left-preserved
loop-left-preserved c =
    let p : List ℕ → Bool = has_method c.args.method in
    let one = one_counted p SEQUENCE (remaining c.loop-left.rest) (remaining c.in-Some.description)
    (remaining c.content.new.cursor) (sym c.in-Some.ensures) in
    let fails : p (remaining c.in-Some.description) ≡ false = sym c.is_in.ensures ∙ c.if-is_in.false in
    let counts : passing p SEQUENCE (remaining c.loop-left.rest) ≡
    passing p SEQUENCE (remaining c.content.new.cursor) = omega (arith, rw fails at one) in
    record { counted = omega (arith, counts, c.loop-left.invariant.counted); fewer = c.loop-left.invariant.fewer }
