use Rattle.rpki_path.proofs.MoreNumbers.{holds_more, checks_kept}
use Rattle.rpki_path.proofs.laws.monotone.Goals as goal

pub returns-clause-holds : goal.returns-clause-holds
returns-clause-holds c = holds_more

pub returns-clause-checks : goal.returns-clause-checks
returns-clause-checks c = checks_kept
