use Rattle.rpki_verdicts.proofs.ShownRanks.{show_by_ranks}
use Rattle.rpki_verdicts.proofs.laws.shown_by_ranks.Goals as goal

pub returns : goal.returns
returns c = show_by_ranks
