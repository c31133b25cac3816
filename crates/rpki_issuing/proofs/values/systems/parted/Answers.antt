use Rattle.std.proofs.Common.{◌+◌, refl, sym, ◌∙◌}
use Rattle.std.proofs.lemmas.List.{take_rest}
use Rattle.rpki_issuing.proofs.values.systems.parted.Goals as goal

pub returns-in_err-at-clause-none : goal.returns-in_err-at-clause-none
returns-in_err-at-clause-none c = rw c.from_residual.ensures (sym c.position_of.ensures ∙ c.in_err-at.was)

pub returns-clause-some : goal.returns-clause-some
returns-clause-some c =
    record {
      place = c.in_ok-at.at;
      place_is = sym c.position_of.ensures ∙ c.in_ok-at.was;
      before_is = refl;
      behind_is = take_rest c.args.text.now (c.in_ok-at.at + 1);
    }
