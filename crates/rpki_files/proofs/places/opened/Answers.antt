use Rattle.std.proofs.Common.{refl}
use Rattle.rpki_files.specs.StopPlaces.{HasTag, StopsBefore}
use Rattle.rpki_files.proofs.StopWalks.{opens_at, stops_for}
use Rattle.rpki_files.proofs.places.opened.Goals as goal

pub returns-in-Ok-clause-read : goal.returns-in-Ok-clause-read
returns-in-Ok-clause-read c =
    let read = c.in-Ok.ensures in
    opens_at c.args.identifier c.args.cursor.now c.in-Ok.inner c.take_value.new.self c.at-octet.ensures.order
    c.at-octet.ensures.within c.at-behind.ensures.order c.at-inside.ensures.order read.answers.keeps read.inside
    read.placed read.answers.encoded

pub returns-in-Err-clause-stop : goal.returns-in-Err-clause-stop
returns-in-Err-clause-stop c =
    stops_for (StopsBefore (HasTag c.args.identifier) c.args.part c.args.cursor.now) c.args.part c.at-octet.result
    c.in-Err.fault c.stopped.result c.stopped.ensures
    (λ other. record {
      stop_is = refl;
      octet_is = c.at-octet.ensures.octet;
      none = λ text rest has parts. c.in-Err.ensures.answers.encoded.1 has.0 rest (record { text = text; encoded = has.1; parts = parts });
    })
