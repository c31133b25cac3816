use Rattle.std.specs.Prelude.{Ok}
use Rattle.std.proofs.Common.{◌∙◌, ◌∷◌, ◌<◌, ◌≤◌, List, [], length, refl, sym, ap, subst, arith}
use Rattle.std.proofs.lemmas.Bool.{false≢true}
use Rattle.rpki_path.specs.declared.judging.Judged.{Judged}
use Rattle.rpki_folder.specs.KeptLines.{AreFurther, ArePaths}
use Rattle.rpki_folder.specs.Walks.{told_at}
use Rattle.rpki_folder.specs.declared.find.FoundPath.{FoundPath}
use Rattle.rpki_folder.proofs.KeptLineSteps.{then_err}
use Rattle.rpki_folder.proofs.KeptPaths.{paths_counted, paths_more, paths_same}
use Rattle.rpki_folder.proofs.lines.AcceptedPaths.add.Goals as goal

pub returns-then-has-clause-ok : goal.returns-then-has-clause-ok
returns-then-has-clause-ok c = λ ts place h.
    paths_same place (told_at c.args.above.now place (Ok c.args.accepted.now)) ts c.args.self.now h
    (λ f. false≢true (sym f.2 ∙ sym c.has.ensures ∙ c.if-has.true))

pub returns-then-len-ge-MOST_OTHERS-clause-ok : goal.returns-then-len-ge-MOST_OTHERS-clause-ok
returns-then-len-ge-MOST_OTHERS-clause-ok c = λ ts place h.
    let old = c.args.self.now in
    let full : 7 ≤ length old.others.items = omega (arith, c.len.ensures, c.if-len-ge-MOST_OTHERS.true) in
    paths_counted place (told_at c.args.above.now place (Ok c.args.accepted.now)) ts old
    (record { first = old.first; others = old.others; more = c.saturating_add-self.result }) h
    (refl, refl, sym c.has.ensures ∙ c.if-has.false) full refl refl c.saturating_add-self.ensures

pub returns-in_err-push-clause-err : goal.returns-in_err-push-clause-err
returns-in_err-push-clause-err c = λ ts place h.
    let old = c.args.self.now in
    then_err (ArePaths ts place (record { first = old.first; others = c.push.new.self; more = old.more }))
    c.from_residual-in_err-push.result (
      h.0,
      subst (λ (l : List FoundPath). AreFurther place [] ts (old.first ∷ l) h.0)
          (sym c.in_err-push.ensures.items) h.1,
      h.2,
    )

pub returns-clause-ok : goal.returns-clause-ok
returns-clause-ok c = λ ts place h.
    let old = c.args.self.now in
    let path = c.in_ok-path.path in
    let few : length old.others.items < 7 = omega (arith, c.len.ensures, c.if-len-ge-MOST_OTHERS.false) in
    paths_more place (told_at c.args.above.now place (Ok c.args.accepted.now)) ts old
    (record { first = old.first; others = c.push.new.self; more = old.more }) path h
    (refl, refl, sym c.has.ensures ∙ c.if-has.false)
    (sym c.in_ok-path.ensures.above, refl, ap (λ (j : Judged). Ok j) (sym c.in_ok-path.ensures.judged))
    few refl c.in_ok-push.ensures.items refl
