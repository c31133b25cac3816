use Rattle.std.proofs.Common.{sym}
use Rattle.rpki_der.specs.Place.{remaining}
use Rattle.rpki_files.proofs.FoundFlaws.{first_end, opened_by}
use Rattle.rpki_files.proofs.found.first_flaw.Goals as goal

pub begun_flaw-requires : goal.begun_flaw-requires
begun_flaw-requires c = opened_by (remaining c.args.at.now) c.in-Some.identifier.now
    (rw c.rest.ensures.remaining at (sym c.in-Some.ensures.value))

pub returns-in-None : goal.returns-in-None
returns-in-None c = first_end c.args.is_list c.args.part (remaining c.args.at.now)
    (rw c.rest.ensures.remaining at (sym c.in-None.ensures.value))
