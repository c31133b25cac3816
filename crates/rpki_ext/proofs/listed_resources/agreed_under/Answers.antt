use Rattle.rpki_ext.proofs.AgreedModes.{listed_so}
use Rattle.rpki_ext.proofs.listed_resources.agreed_under.Goals as goal

pub returns-clause-reads : goal.returns-clause-reads
returns-clause-reads c = listed_so c.args.overclaim c.args.ip c.args.numbers _ _ _ _ _ c.requires c.in-Some.ensures
    c.in-Some-under.ensures c.both_families-v4_resources.ensures.v4 c.both_families-v4_resources.ensures.v6
    c.or_missing.ensures.numbers
