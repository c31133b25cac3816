use Rattle.std.specs.Prelude.{Result, Err, OnOk}
use Rattle.std.proofs.Common.{[], ◌∷◌, ◌++◌, refl, sym, subst}
use Rattle.rpki_path.specs.declared.judging.Judged.{Judged}
use Rattle.rpki_path.specs.declared.path_fault.PathFault.{PathFault}
use Rattle.rpki_folder.specs.KeptLines.{BecameLines}
use Rattle.rpki_folder.specs.Walks.{told_at}
use Rattle.rpki_folder.proofs.KeptLineSteps.{err_gives, ok_gives}
use Rattle.rpki_verdicts.specs.NamedPaths.Steps.{BecameNamed}
use Rattle.rpki_verdicts.specs.declared.named_paths.NamedLines.{NamedLines}
use Rattle.rpki_verdicts.proofs.NamedSteps.{became_passed, became_same}
use Rattle.rpki_verdicts.proofs.named_paths.NamedLinesVisitor.tell.Goals as goal

pub returns-in-Ok-clause-ok : goal.returns-in-Ok-clause-ok
returns-in-Ok-clause-ok c = λ v ts h.
    subst (λ (r : Result Judged PathFault). OnOk c.accept.result
    (BecameNamed v (ts ++ told_at c.args.above.now c.args.place r ∷ []) c.accept.new.self)) (sym c.in-Ok.is)
    (c.accept.ensures.ok v ts h)

pub returns-in-Err-clause-ok : goal.returns-in-Err-clause-ok
returns-in-Err-clause-ok c = λ v ts h.
    let a : NamedLines = c.args.self.now in
    let b : NamedLines = record { alloc = a.alloc; rule = a.rule; lines = c.tell.new.self; paths = a.paths; names = a.names } in
    let t = told_at c.args.above.now c.args.place (Err c.in-Err.fault) in
    subst (λ (r : Result Judged PathFault).
    OnOk c.tell.result (BecameNamed v (ts ++ told_at c.args.above.now c.args.place r ∷ []) b)) (sym c.in-Err.is)
    (ok_gives (BecameLines v.lines (ts ++ t ∷ []) b.lines) (BecameNamed v (ts ++ t ∷ []) b) c.tell.result
    (λ lines. became_passed v a b ts h refl (λ right. right) t lines (λ place. refl) (λ right ok. absurd cc))
    (c.tell.ensures.ok v.lines ts h.lines_are))

pub returns-in-Err-clause-err : goal.returns-in-Err-clause-err
returns-in-Err-clause-err c = λ v ts h.
    let a : NamedLines = c.args.self.now in
    let b : NamedLines = record { alloc = a.alloc; rule = a.rule; lines = c.tell.new.self; paths = a.paths; names = a.names } in
    err_gives (BecameLines v.lines ts b.lines) (BecameNamed v ts b) c.tell.result
    (λ lines. became_same v a b ts h refl (λ right. right) lines (λ right place. refl))
    (c.tell.ensures.err v.lines ts h.lines_are)
