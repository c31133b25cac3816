use Rattle.rpki_der.specs.Tags.{SEQUENCE}
use Rattle.rpki_files.specs.Flaws.{IsTimeFlaw, time_flaws}
use Rattle.rpki_files.proofs.FlawReads.{first_inside, none_inside}
use Rattle.rpki_files.proofs.found.in_not_before.Goals as goal

pub returns-in-Ok : goal.returns-in-Ok
returns-in-Ok c = first_inside SEQUENCE (λ f times. IsTimeFlaw times f) time_flaws c.fork-ahead.result c.args.at.now
    c.take_value.new.self c.fork-ahead.ensures.same c.in-Ok.times _ c.in-Ok.ensures.answers.encoded
    c.in_time.ensures

pub returns-in-Err : goal.returns-in-Err
returns-in-Err c = none_inside SEQUENCE (λ f times. IsTimeFlaw times f) time_flaws c.fork-ahead.result c.args.at.now
    c.take_value.new.self c.fork-ahead.ensures.same c.in-Err.fault c.in-Err.ensures.answers.encoded
