use Rattle.rpki_files.specs.StopPlaces.{IsField}
use Rattle.rpki_files.proofs.StopWalks.{took}
use Rattle.rpki_files.proofs.places.past.Goals as goal

pub returns-in-Ok-clause-read : goal.returns-in-Ok-clause-read
returns-in-Ok-clause-read c =
    let a = c.in-Ok.ensures in
    took (IsField c.args.field) c.args.cursor.now c.take_field.new.cursor a.0 c.at-octet.ensures.order
    c.at-octet.ensures.within c.at-behind.ensures.order a.3 a.1 a.2
