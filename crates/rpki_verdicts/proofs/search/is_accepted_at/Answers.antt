use Rattle.std.specs.Prelude.{Option}
use Rattle.std.proofs.Common.{subst, sym}
use Rattle.rpki_folder.specs.declared.lines.Line.{Line}
use Rattle.rpki_verdicts.specs.NamedPaths.{HasSome}
use Rattle.rpki_verdicts.proofs.search.is_accepted_at.Goals as goal

pub returns : goal.returns
returns c = (
  λ it. let some = subst (λ (o : Option Line). HasSome o) c.line.ensures (c.is_accepted.ensures.0 it) in
      record { paths = some.0; line_is = some.1 },
  λ is. c.is_accepted.ensures.1 (subst (λ (o : Option Line). HasSome o) (sym c.line.ensures) (is.paths, is.line_is)),
)
