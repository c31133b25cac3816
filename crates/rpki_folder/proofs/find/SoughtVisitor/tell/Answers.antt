use Rattle.std.specs.Prelude.{Result, Ok, Err, IsOk}
use Rattle.std.proofs.Common.{sym, ap, subst, ◌∙◌}
use Rattle.rpki_path.specs.declared.judging.Judged.{Judged}
use Rattle.rpki_path.specs.declared.path_fault.PathFault.{PathFault}
use Rattle.rpki_folder.specs.Walks.{told_at}
use Rattle.rpki_folder.proofs.SearchSteps.{sought_still, sought_now}
use Rattle.rpki_folder.proofs.find.SoughtVisitor.tell.Goals as goal

pub returns-in_default-clause-ok : goal.returns-in_default-clause-ok
returns-in_default-clause-ok c = λ v ts h. (
  h.0,
  (λ none. sought_still v.place ts (told_at c.args.above.now c.args.place c.args.verdict)
      (λ is ok. let wrong : IsOk {T = Judged} {E = PathFault} (Err c.in_default.field-0) =
      subst (λ (r : Result Judged PathFault). IsOk r) c.in_default.is ok in absurd cc)
      c.args.self.now.found (h.1 none)),
)

pub returns-clause-ok : goal.returns-clause-ok
returns-clause-ok c = λ v ts h. (
  h.0,
  (λ none. sought_now v.place ts c.args.above.now c.args.place c.args.verdict c.in_ok-path.path
      (sym c.in_ok-path.ensures.above) (c.if-place-self.false ∙ h.0)
      (c.in-Ok.is ∙ ap (λ (j : Judged). Ok j) (sym c.in_ok-path.ensures.judged))),
)
