use Rattle.std.specs.Prelude.{Result, Ok, OnOk}
use Rattle.std.proofs.Common.{◌≡◌, [], ◌∷◌, ◌++◌, length, sym, ap, subst, ◌∙◌, arith}
use Rattle.rpki_path.specs.declared.judging.Judged.{Judged}
use Rattle.rpki_path.specs.declared.path_fault.PathFault.{PathFault}
use Rattle.rpki_folder.specs.KeptLines.{AreLines}
use Rattle.rpki_folder.specs.Walks.{told_at}
use Rattle.rpki_folder.proofs.KeptLineSteps.{line_kept, when_err, when_ok}
use Rattle.rpki_folder.proofs.lines.LinesVisitor.tell.Goals as goal

pub returns-then-place-len-clause-ok : goal.returns-then-place-len-clause-ok
returns-then-place-len-clause-ok c = λ v ts h. (
  h.0,
  (λ none. line_kept ts (told_at c.args.above.now c.args.place c.args.verdict) c.args.self.now (h.1 none)
      (λ d low l. absurd (omega
      (arith, low, c.if-place-len.true, c.len.ensures, c.self.inside.lines.ok.0, ap length c.self.view_is)))),
)

pub returns-in-Ok-clause-ok : goal.returns-in-Ok-clause-ok
returns-in-Ok-clause-ok c = λ v ts h.
    let lines = c.accept.new.self in
    subst (λ (r : Result Judged PathFault). OnOk c.accept.result
    ((length lines ≡ length v) ×
    (AreLines [] v → AreLines (ts ++ told_at c.args.above.now c.args.place r ∷ []) lines))) (sym c.in-Ok.is)
    (when_ok (length lines ≡ length v) (AreLines [] v)
    (AreLines (ts ++ told_at c.args.above.now c.args.place (Ok c.in-Ok.accepted) ∷ []) lines) c.accept.result
    (c.accept.ensures.count ∙ h.0) (λ (none : AreLines [] v). c.accept.ensures.ok ts (h.1 none)))

pub returns-in-Ok-clause-err : goal.returns-in-Ok-clause-err
returns-in-Ok-clause-err c = λ v ts h.
    let lines = c.accept.new.self in
    when_err (length lines ≡ length v) (AreLines [] v) (AreLines ts lines) c.accept.result
    (c.accept.ensures.count ∙ h.0) (λ (none : AreLines [] v). c.accept.ensures.err ts (h.1 none))

pub returns-in-Err-clause-ok : goal.returns-in-Err-clause-ok
returns-in-Err-clause-ok c = λ v ts h. (
  c.reject.ensures.count ∙ h.0,
  (λ none. subst (λ (r : Result Judged PathFault). AreLines (ts ++ told_at c.args.above.now c.args.place r ∷ [])
      c.reject.new.self) (sym c.in-Err.is) (c.reject.ensures.lines ts (h.1 none))),
)
