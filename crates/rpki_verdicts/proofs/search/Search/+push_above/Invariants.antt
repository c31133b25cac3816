use Rattle.rpki_verdicts.proofs.search.Search.+push_above.Given as goal

abbrev pub decreases-push_above : goal.decreases-push_above
decreases-push_above l = l.most
