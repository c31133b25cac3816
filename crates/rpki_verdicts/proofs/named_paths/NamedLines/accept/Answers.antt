use Rattle.std.specs.BTreeMap.{BTreeMap, get, is_at}
use Rattle.std.specs.Map.{lookup}
use Rattle.std.specs.Ordering.{nat_cmp}
use Rattle.std.specs.Prelude.{MatchOption, Ok, Option, Some, cond}
use Rattle.std.proofs.Common.{◌∙◌, ◌++◌, ℕ, List, [], ◌∷◌, refl, sym, ap, subst}
use Rattle.rpki_folder.specs.KeptLines.{BecameLines}
use Rattle.rpki_folder.specs.Walks.{told_at}
use Rattle.rpki_folder.specs.declared.find.FoundPath.{FoundPath}
use Rattle.rpki_folder.specs.declared.lines.Line.{Line}
use Rattle.rpki_folder.proofs.KeptLineSteps.{err_gives, ok_gives, then_err}
use Rattle.rpki_verdicts.specs.NamedPaths.Steps.{BecameNamed, IsChosen, IsPassed}
use Rattle.rpki_verdicts.specs.declared.named_paths.NamedLines.{NamedLines}
use Rattle.rpki_verdicts.proofs.NamedSteps.{became_added, became_passed, became_same, taken_out}
use Rattle.rpki_verdicts.proofs.named_paths.NamedLines.accept.Goals as goal

pub returns-in_default-clause-ok : goal.returns-in_default-clause-ok
returns-in_default-clause-ok c = λ v ts h.
    let a : NamedLines = c.args.self.now in
    let d : NamedLines = c.chosen.new.self in
    let b : NamedLines = record { alloc = d.alloc; rule = d.rule; lines = c.tell.new.self; paths = d.paths; names = d.names } in
    let above = c.args.above.now in
    let place = c.args.place in
    let t = told_at above place (Ok c.args.accepted) in
    let before = subst (λ (l : List Line). BecameLines v.lines ts l) (sym c.chosen.ensures.lines) h.lines_are in
    ok_gives (BecameLines v.lines (ts ++ t ∷ []) b.lines) (BecameNamed v (ts ++ t ∷ []) b) c.tell.result
    (λ lines. became_passed v a b ts h c.chosen.ensures.rule c.chosen.ensures.right t lines
    (λ at. ap (λ (m : BTreeMap ℕ FoundPath). get nat_cmp m at) c.chosen.ensures.paths)
    (λ right ok. subst (λ (o : Option FoundPath). MatchOption o (IsPassed a above place) (IsChosen a above place c.args.accepted))
    c.in_default.is (c.in_ok-path.ensures.chosen right)))
    (c.tell.ensures.ok v.lines ts before)

pub returns-in_default-clause-err : goal.returns-in_default-clause-err
returns-in_default-clause-err c = λ v ts h.
    let a : NamedLines = c.args.self.now in
    let d : NamedLines = c.chosen.new.self in
    let b : NamedLines = record { alloc = d.alloc; rule = d.rule; lines = c.tell.new.self; paths = d.paths; names = d.names } in
    let before = subst (λ (l : List Line). BecameLines v.lines ts l) (sym c.chosen.ensures.lines) h.lines_are in
    err_gives (BecameLines v.lines ts b.lines) (BecameNamed v ts b) c.tell.result
    (λ lines. became_same v a b ts h c.chosen.ensures.rule c.chosen.ensures.right lines
    (λ right at. ap (λ (m : BTreeMap ℕ FoundPath). get nat_cmp m at) c.chosen.ensures.paths))
    (c.tell.ensures.err v.lines ts before)

pub returns-in_err-insert-clause-err : goal.returns-in_err-insert-clause-err
returns-in_err-insert-clause-err c = λ v ts h.
    let a : NamedLines = c.args.self.now in
    let d : NamedLines = c.chosen.new.self in
    let b : NamedLines = record { alloc = d.alloc; rule = d.rule; lines = d.lines; paths = c.insert.new.self; names = d.names } in
    let lines = subst (λ (l : List Line). BecameLines v.lines ts l) (sym c.chosen.ensures.lines) h.lines_are in
    then_err (BecameNamed v ts b) c.from_residual-in_err-insert.result
    (became_same v a b ts h c.chosen.ensures.rule c.chosen.ensures.right lines
    (λ right at. ap (λ (es : List (ℕ × FoundPath)). lookup (is_at (nat_cmp at)) es) c.in_err-insert.ensures.err
    ∙ ap (λ (m : BTreeMap ℕ FoundPath). get nat_cmp m at) c.chosen.ensures.paths))

pub returns-in-Ok-clause-ok : goal.returns-in-Ok-clause-ok
returns-in-Ok-clause-ok c = λ v ts h.
    let a : NamedLines = c.args.self.now in
    let d : NamedLines = c.chosen.new.self in
    let b : NamedLines = record { alloc = d.alloc; rule = d.rule; lines = c.tell-2.new.self; paths = c.insert.new.self; names = d.names } in
    let above = c.args.above.now in
    let place = c.args.place in
    let path : FoundPath = c.in-Some.path in
    let t = told_at above place (Ok c.args.accepted) in
    let before = subst (λ (l : List Line). BecameLines v.lines ts l) (sym c.chosen.ensures.lines) h.lines_are in
    became_added v a b ts h c.chosen.ensures.rule c.chosen.ensures.right t (c.in-Ok.ensures.ok v.lines ts before)
    c.args.accepted path refl
    (λ at. c.in_ok-insert.ensures.updates.0 at
    ∙ ap (λ (m : BTreeMap ℕ FoundPath). cond (is_at (nat_cmp place) at) (Some path) (get nat_cmp m at)) c.chosen.ensures.paths)
    (λ right. subst (λ (o : Option FoundPath). MatchOption o (IsPassed a above place) (IsChosen a above place c.args.accepted))
    c.in-Some.is (c.in_ok-path.ensures.chosen right))

pub returns-in-Err-clause-err : goal.returns-in-Err-clause-err
returns-in-Err-clause-err c = λ v ts h.
    let a : NamedLines = c.args.self.now in
    let d : NamedLines = c.chosen.new.self in
    let b : NamedLines = record { alloc = d.alloc; rule = d.rule; lines = c.tell-2.new.self; paths = c.remove.new.self; names = d.names } in
    let above = c.args.above.now in
    let place = c.args.place in
    let path : FoundPath = c.in-Some.path in
    let before = subst (λ (l : List Line). BecameLines v.lines ts l) (sym c.chosen.ensures.lines) h.lines_are in
    became_same v a b ts h c.chosen.ensures.rule c.chosen.ensures.right (c.in-Err.ensures.err v.lines ts before)
    (λ right.
    let chosen : IsChosen a above place c.args.accepted path =
    subst (λ (o : Option FoundPath). MatchOption o (IsPassed a above place) (IsChosen a above place c.args.accepted))
    c.in-Some.is (c.in_ok-path.ensures.chosen right) in
    taken_out place path a.paths c.insert.new.self c.remove.new.self chosen.none
    (λ at. c.in_ok-insert.ensures.updates.0 at
    ∙ ap (λ (m : BTreeMap ℕ FoundPath). cond (is_at (nat_cmp place) at) (Some path) (get nat_cmp m at)) c.chosen.ensures.paths)
    (λ at. c.remove.ensures.updates.0 at))
