use Rattle.rpki_der.specs.Place.{remaining}
use Rattle.rpki_der.proofs.SkippingReads.{skips_all}
use Rattle.rpki_der.proofs.cursor.Cursor.skip_all.Goals as goal

pub returns-clause-skippable : goal.returns-clause-skippable
returns-clause-skippable c = skips_all c.rest_skippable.result (remaining c.args.self.now)
    c.rest_skippable.ensures.octets c.rest_skippable.ensures.reads
