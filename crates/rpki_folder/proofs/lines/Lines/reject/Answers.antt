use Rattle.std.proofs.Common.{◌≡◌, ◌<◌, List, [], ◌∷◌, ◌++◌, length, get_or, Err, refl, sym, ap, subst, ◌∙◌}
use Rattle.std.proofs.lemmas.Bool.{false≢true}
use Rattle.std.proofs.lemmas.List.{length-set}
use Rattle.rpki_folder.specs.KeptLines.{IsLine, AreLines}
use Rattle.rpki_folder.specs.Walks.{told_at}
use Rattle.rpki_folder.specs.declared.lines.Line.{Line}
use Rattle.rpki_folder.proofs.KeptLineSteps.{line_set, line_kept, kept_line, new_line, at_place}
use Rattle.rpki_folder.proofs.lines.Lines.reject.Goals as goal

pub returns-then-stays : goal.returns-then-stays
returns-then-stays c = record {
  lines = λ ts old.
      let lines = c.args.self.now in
      let place = c.args.place in
      let above = c.args.above.now in
      let fault = c.args.fault in
      let t = told_at above place (Err fault) in
      line_kept ts t lines old (λ d low h.
      let at : get_or lines place d ≡ c.index.result.now = at_place c.self.inside.lines.items lines place
      c.index.result.now c.self.view_is c.index.ensures low d in
      subst (λ (l : Line). IsLine (ts ++ t ∷ []) place l) (sym at)
      (kept_line ts above place fault c.index.result.now (c.if-stays.ensures.0 refl)
      (subst (λ (l : Line). IsLine ts place l) at h)));
  count = refl;
}

pub returns : goal.returns
returns c = record {
  lines = λ ts old.
      let lines = c.self.inside.lines.items in
      let place = c.args.place in
      let above = c.args.above.now in
      let fault = c.args.fault in
      let t = told_at above place (Err fault) in
      let low : place < length lines = subst (λ (l : List Line). place < length l) (sym c.self.view_is) c.requires in
      let kept : AreLines ts lines = subst (λ (l : List Line). AreLines ts l) (sym c.self.view_is) old in
      let now = c.index.result.now in
      let here : IsLine ts place now = subst (λ (l : Line). IsLine ts place l) (sym c.index.ensures)
      (kept place now low) in
      line_set ts t lines c.replace.new.dest low kept
      (subst (λ (l : Line). IsLine (ts ++ t ∷ []) place l) (sym c.replace.ensures.after)
      (new_line ts above place fault now (λ s. false≢true (c.if-stays.ensures.1 s)) here));
  count = length-set c.self.inside.lines.items c.args.place c.replace.new.dest ∙ ap length c.self.view_is;
}
