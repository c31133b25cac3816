use Rattle.rpki_files.proofs.DerTexts.{taken_as_is}
use Rattle.rpki_files.proofs.bare.read_bare_object.Goals as goal

pub returns-clause-der : goal.returns-clause-der
returns-clause-der c = taken_as_is c.args.file.items c.in_ok-octets.octets c.in_ok-octets.ensures
