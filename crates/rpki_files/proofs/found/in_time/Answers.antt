use Rattle.std.proofs.Common.{inl, refl}
use Rattle.rpki_der.specs.Place.{remaining}
use Rattle.rpki_files.specs.Flaws.{numbered, time_flaws}
use Rattle.rpki_files.proofs.NumberedTimes.{first_out}
use Rattle.rpki_files.proofs.found.in_time.Goals as goal

pub returns-in-Some : goal.returns-in-Some
returns-in-Some c = first_out (remaining c.args.at.now) (numbered c.in-Some.numbers) c.in-Some.ensures.some time_flaws
    c.out_of_range.result c.out_of_range.ensures

pub returns-in-None : goal.returns-in-None
returns-in-None c = inl (c.in-None.ensures.none, refl)
