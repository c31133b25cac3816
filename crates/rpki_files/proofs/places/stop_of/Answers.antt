use Rattle.rpki_files.proofs.ToldPlaces.{told_stop, told_within}
use Rattle.rpki_files.proofs.places.stop_of.Goals as goal

pub returns-in-Ok-clause-stops : goal.returns-in-Ok-clause-stops
returns-in-Ok-clause-stops c =
    let stop = c.in_ok-part in
    let e = c.in-Ok.ensures in
    told_stop c.args.octets.now stop.octet c.in-Ok.place e.octet c.args.is_list stop.part stop.ensures.stops e.field e.wanted e.found

pub returns-in-Ok-clause-within : goal.returns-in-Ok-clause-within
returns-in-Ok-clause-within c =
    let stop = c.in_ok-part in
    told_within c.args.octets.now stop.octet c.in-Ok.place c.in-Ok.ensures.octet stop.ensures.within
