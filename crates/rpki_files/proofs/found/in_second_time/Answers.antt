use Rattle.std.proofs.Common.{subst, sym}
use Rattle.rpki_der.specs.Encoding.{Begins}
use Rattle.rpki_der.specs.Place.{Place, remaining}
use Rattle.rpki_der.specs.Times.{IsTime}
use Rattle.rpki_files.specs.Flaws.{IsSecondTimeFlaw, time_flaws}
use Rattle.rpki_files.proofs.FirstTrue.{none_true}
use Rattle.rpki_files.proofs.NumberedTimes.{first_second}
use Rattle.rpki_files.proofs.found.in_second_time.Goals as goal

pub returns-in-Ok : goal.returns-in-Ok
returns-in-Ok c =
    let rest = c.take_from.new.cursor in
    let begins = subst (λ (p : Place). Begins IsTime (remaining p) c.in-Ok.field-0 (remaining rest))
    c.fork-rest.ensures.same c.in-Ok.ensures.encoded in
    first_second (remaining c.args.times.now) (remaining rest) c.in-Ok.field-0 begins time_flaws c.in_time.result c.in_time.ensures

pub returns-in-Err : goal.returns-in-Err
returns-in-Err c =
    none_true (IsSecondTimeFlaw (remaining c.args.times.now)) time_flaws
    (λ f p. c.in-Err.ensures.encoded.1 p.0 p.1
    (subst (λ (a : Place). Begins IsTime (remaining a) p.0 p.1) (sym c.fork-rest.ensures.same) p.2))
