use Rattle.rpki_calls.proofs.making.issued_below.Goals as goal

pub issue_below-answer-requires-clause-written : goal.issue_below-answer-requires-clause-written
issue_below-answer-requires-clause-written c = (c.is_issuable.ensures c.if-is_issuable.true).written

pub issue_below-answer-requires-clause-signs : goal.issue_below-answer-requires-clause-signs
issue_below-answer-requires-clause-signs c = λ e is. is

pub issue_below-answer-requires-clause-fits : goal.issue_below-answer-requires-clause-fits
issue_below-answer-requires-clause-fits c = λ s signs. ((c.is_issuable.ensures c.if-is_issuable.true).fit s signs.0 signs.1).short

pub issue_below-answer-requires-clause-profile : goal.issue_below-answer-requires-clause-profile
issue_below-answer-requires-clause-profile c = λ s signs. ((c.is_issuable.ensures c.if-is_issuable.true).fit s signs.0 signs.1).meets

pub issue_below-answer-requires-clause-checks : goal.issue_below-answer-requires-clause-checks
issue_below-answer-requires-clause-checks c = λ s signs. ((c.is_issuable.ensures c.if-is_issuable.true).fit s signs.0 signs.1).checks
