use Rattle.std.proofs.Common.{Some, None}
use Rattle.rpki_der.specs.Place.{remaining}
use Rattle.rpki_files.specs.Flaws.{IsFlaw, IsTimeFlaw, time_flaws}
use Rattle.rpki_files.specs.declared.flaws.Flaw.TheVariants as flaw
use Rattle.rpki_files.proofs.FirstTrue.{first_image}
use Rattle.rpki_files.proofs.found.time.Goals as goal

pub returns-in-Some : goal.returns-in-Some
returns-in-Some c = λ is_list part.
    let octets = remaining c.args.at.now in
    first_image (IsTimeFlaw octets) (IsFlaw is_list part octets) flaw.Time time_flaws (Some c.in-Some.flaw) (λ f p. p)
    (λ f p. p) c.in-Some.ensures

pub returns-in-None : goal.returns-in-None
returns-in-None c = λ is_list part.
    let octets = remaining c.args.at.now in
    first_image (IsTimeFlaw octets) (IsFlaw is_list part octets) flaw.Time time_flaws None (λ f p. p) (λ f p. p) c.in-None.ensures
