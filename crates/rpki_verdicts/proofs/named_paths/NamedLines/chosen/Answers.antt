use Rattle.std.specs.Prelude.{Option, slice_get}
use Rattle.std.proofs.Common.{◌∙◌, List, ap, sym, subst}
use Rattle.std.proofs.lemmas.Bool.{false≢true}
use Rattle.rpki_folder.specs.declared.lines.Line.{Line}
use Rattle.rpki_verdicts.specs.NamedPaths.{HasSome}
use Rattle.rpki_verdicts.proofs.NamedPlaces.{looked_up}
use Rattle.rpki_verdicts.proofs.named_paths.NamedLines.chosen.Goals as goal

pub returns-then-not-is_accepted-clause-chosen : goal.returns-then-not-is_accepted-clause-chosen
returns-then-not-is_accepted-clause-chosen c = λ right named some.
    let place = c.args.place in
    let line = looked_up c.as_slice.result.now place c.get.result c.get.ensures.lookup
    ∙ ap (λ (l : List Line). slice_get l place) c.as_slice.ensures in
    absurd (false≢true (sym c.if-not-is_accepted.true
    ∙ c.is_accepted.ensures.1 (subst (λ (o : Option Line). HasSome o) (sym line) some)))
