use Rattle.rpki_answers.proofs.showing.subjects.subject_of.Goals as goal

pub returns-in-Certificate : goal.returns-in-Certificate
returns-in-Certificate c = (rw c.in-Certificate.is at c.content.ensures).0

pub returns-in-List : goal.returns-in-List
returns-in-List c = (rw c.in-List.is at c.content.ensures).0

pub subject_of_neither-requires-clause-fault : goal.subject_of_neither-requires-clause-fault
subject_of_neither-requires-clause-fault c = (rw c.in-Neither.is at c.content.ensures).0

pub subject_of_neither-requires-clause-neither : goal.subject_of_neither-requires-clause-neither
subject_of_neither-requires-clause-neither c = (rw c.in-Neither.is at c.content.ensures).1
