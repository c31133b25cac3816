use Rattle.std.proofs.Common.{◌≡◌, ◌+◌, List, [], ◌∷◌, length, sym, ap, subst, arith}
use Rattle.std.proofs.lemmas.List.{length-append}
use Rattle.rpki_folder.specs.KeptLines.{AreLines}
use Rattle.rpki_folder.specs.declared.lines.Line.{Line}
use Rattle.rpki_folder.specs.declared.lines.Line.TheVariants.{Unseen}
use Rattle.rpki_folder.proofs.KeptLineSteps.{unseen_more}
use Rattle.rpki_folder.proofs.lines.Lines.new.Goals as goal

pub loop-init : goal.loop-init
loop-init c =
    let none : length c.new-lines.result.items ≡ 0 = ap length c.new-lines.ensures.items in
    (none, λ place d low. absurd (omega (arith, none, low)))

pub loop-preserved : goal.loop-preserved
loop-preserved c =
    let lines = c.loop.lines.items in
    let items = c.in_ok-push.ensures.items in
    let count : length lines ≡ c.loop.counter = c.loop.invariant.0 in
    let more : length c.push.new.self.items ≡ c.loop.counter + 1 =
    omega (arith, ap length items, length-append lines (Unseen ∷ []), count) in
    (more, subst (λ (l : List Line). AreLines [] l) (sym items) (unseen_more lines c.loop.invariant.1))

pub returns-clause-count : goal.returns-clause-count
returns-clause-count c =
    let count : length c.loop.lines.items ≡ c.loop.counter = c.loop.invariant.0 in
    omega (arith, count)

pub returns-clause-nothing : goal.returns-clause-nothing
returns-clause-nothing c = c.loop.invariant.1
