use Rattle.rpki_path.proofs.ChainedNames.{chain_alone, chain_longer}
use Rattle.rpki_path.proofs.laws.names_step_by_step.Goals as goal

pub returns-clause-anchor : goal.returns-clause-anchor
returns-clause-anchor c = chain_alone

pub returns-clause-below : goal.returns-clause-below
returns-clause-below c = chain_longer
