use Rattle.std.specs.Prelude.{Ok}
use Rattle.std.proofs.Common.{◌∙◌, ◌<◌, ◌∷◌, ◌++◌, List, [], length, sym, ap, subst}
use Rattle.std.proofs.Math.ListN.{set}
use Rattle.std.proofs.lemmas.List.{length-set}
use Rattle.rpki_folder.specs.KeptLines.{AreLines, IsLine}
use Rattle.rpki_folder.specs.Walks.{Told, told_at}
use Rattle.rpki_folder.specs.declared.lines.Line.{Line}
use Rattle.rpki_folder.proofs.KeptLineSteps.{err_gives, line_again, line_set, ok_gives}
use Rattle.rpki_folder.proofs.lines.Lines.accept.Goals as goal

pub returns : goal.returns
returns c =
    let lines = c.self.inside.lines.items in
    let place = c.args.place in
    let new = c.accept.new.self in
    let low : place < length lines = subst (λ (l : List Line). place < length l) (sym c.self.view_is) c.requires in
    let kept = λ (ts : List Told) (old : AreLines ts c.args.self.now). subst (λ (l : List Line). AreLines ts l)
    (sym c.self.view_is) old in
    let here = λ (ts : List Told) (old : AreLines ts c.args.self.now).
    subst (λ (l : Line). IsLine ts place l) (sym c.index_mut.ensures.value)
    (kept ts old place c.index_mut.result.now low) in
    record {
      ok = λ ts old.
          let t = told_at c.args.above.now place (Ok c.args.accepted.now) in
          ok_gives (IsLine (ts ++ t ∷ []) place new) (AreLines (ts ++ t ∷ []) (set lines place new)) c.accept.result
          (line_set ts t lines new low (kept ts old)) (c.accept.ensures.ok ts place (here ts old));
      count = length-set lines place new ∙ ap length c.self.view_is;
      err = λ ts old.
          err_gives (IsLine ts place new) (AreLines ts (set lines place new)) c.accept.result
          (line_again ts lines place new low (kept ts old)) (c.accept.ensures.err ts place (here ts old));
    }
