use Rattle.rpki_blocks.specs.Overclaims.{as_identifier}
use Rattle.rpki_blocks.proofs.OverclaimReads.{was_named}
use Rattle.rpki_blocks.proofs.overclaim.Overclaim.from_as_res.Goals as goal

pub returns-clause-named : goal.returns-clause-named
returns-clause-named c = was_named as_identifier c.args.identifier.now c.which.result c.which.ensures
