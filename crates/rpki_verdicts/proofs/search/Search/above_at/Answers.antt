use Rattle.std.specs.Prelude.{Some, option_copied}
use Rattle.std.proofs.Common.{ap, sym, ◌∙◌}
use Rattle.rpki_verdicts.proofs.search.Search.above_at.Goals as goal

pub returns : goal.returns
returns c = record {
  accepted = record {
    paths = c.in-Some-Accepted.paths;
    line_is = sym c.line.ensures ∙ ap option_copied c.in-Some-Accepted.is ∙ ap Some c.in-Some-Accepted.field-0-is;
  };
  path = c.in_ok-found.found.shown.now;
  is_shown = c.in_ok-found.ensures.is_shown;
  above_is = sym c.as_slice.ensures.value;
}
