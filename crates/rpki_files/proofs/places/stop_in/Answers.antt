use Rattle.rpki_files.specs.declared.expected.Part.TheVariants as part
use Rattle.rpki_files.proofs.StopsWithin.{stops_within}
use Rattle.rpki_files.proofs.places.stop_in.Goals as goal

pub returns-in-Ok-clause-within : goal.returns-in-Ok-clause-within
returns-in-Ok-clause-within c = stops_within c.args.octets.now c.args.is_list part.Signature c.in-Ok.octet c.in-Ok.ensures.read

pub returns-in-Err-At-clause-stops : goal.returns-in-Err-At-clause-stops
returns-in-Err-At-clause-stops c = let here = c.in-Err-At in rw here.field-0-is at here.ensures.stop

pub returns-in-Err-At-clause-within : goal.returns-in-Err-At-clause-within
returns-in-Err-At-clause-within c = let here = c.in-Err-At in
    stops_within c.args.octets.now c.args.is_list here.part here.octet (rw here.field-0-is at here.ensures.stop)
