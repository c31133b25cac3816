use Rattle.std.proofs.Common.{refl}
use Rattle.std.proofs.lemmas.Bool.{false≢true, both_ways}
use Rattle.rpki_path.proofs.ListedNumbers.{lists_one, none_missing, none_inherited}
use Rattle.rpki_path.proofs.located.lists_number.Goals as goal

pub returns-then-is_inherited : goal.returns-then-is_inherited
returns-then-is_inherited g c =
    let r = c.args.resources.now in (
      (λ no. absurd (false≢true no)),
      (λ some. absurd (none_inherited r some.0 some.1 (c.if-is_inherited.ensures.0 refl))),
    )

pub returns : goal.returns
returns g c =
    let r = c.args.resources.now in (
      (λ yes. lists_one _ r c.is_present.ensures.fits (c.is_present.ensures.present.0 yes)
          (λ own. both_ways c.is_inherited.result c.if-is_inherited.false (c.is_inherited.ensures.1 own))),
      (λ some. c.is_present.ensures.present.1 (none_missing r some.0 some.1)),
    )
