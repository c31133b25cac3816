use Rattle.std.proofs.Common.{sym, ap, ◌∙◌}
use Rattle.std.proofs.lemmas.Bool.{eqb-true, eq-eqb}
use Rattle.rpki_der.specs.Times.{second_number}
use Rattle.rpki_der.proofs.OneMoment.{one_moment}
use Rattle.rpki_der.proofs.comparing.equal_times.Goals as goal

pub returns : goal.returns
returns c =
    let one = c.args.one.now in
    let other = c.args.other.now in (
      λ same. one_moment one other c.known.ensures c.known-2.ensures
          (eqb-true (second_number one) (second_number other) (sym c.eq.ensures ∙ same)),
      λ same. c.eq.ensures ∙ eq-eqb (second_number one) (second_number other) (ap second_number same),
    )
