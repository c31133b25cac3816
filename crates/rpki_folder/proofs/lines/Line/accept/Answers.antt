use Rattle.std.specs.Prelude.{Ok}
use Rattle.std.proofs.Common.{◌∙◌, ◌∷◌, ◌++◌, [], sym, ap, subst}
use Rattle.rpki_folder.specs.KeptLines.{IsLine}
use Rattle.rpki_folder.specs.Walks.{told_at}
use Rattle.rpki_folder.specs.declared.find.FoundPath.{FoundPath}
use Rattle.rpki_folder.specs.declared.lines.Line.{Line}
use Rattle.rpki_folder.proofs.KeptLineSteps.{accepted_now}
use Rattle.rpki_folder.proofs.lines.Line.accept.Goals as goal

pub returns : goal.returns
returns c = record {
  ok = λ ts place h.
      let above = c.args.above.now in
      let j = c.args.accepted.now in
      subst (λ (l : Line). IsLine (ts ++ told_at above place (Ok j) ∷ []) place l) (sym c.replace.ensures.after)
      (accepted_now ts above place j c.of.result c.args.self.now (λ paths is. c.in_default.not-Accepted paths is) h
      (ap (λ (p : FoundPath). p.above.items) c.of.ensures.first ∙ c.in_ok-first.ensures.above)
      (ap (λ (p : FoundPath). p.judged) c.of.ensures.first ∙ c.in_ok-first.ensures.judged)
      c.of.ensures.others c.of.ensures.more);
  err = λ ts place h. tt;
}
