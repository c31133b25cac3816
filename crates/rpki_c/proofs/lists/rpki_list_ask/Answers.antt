use Rattle.rpki_c.proofs.lists.rpki_list_ask.Goals as goal

pub returns-in-Ok-clause-answers : goal.returns-in-Ok-clause-answers
returns-in-Ok-clause-answers c = λ none. (c.in-Ok.list.list, c.in-Ok.ensures.read, c.put_answers.ensures)

pub returns-in-Err-clause-unread : goal.returns-in-Err-clause-unread
returns-in-Err-clause-unread c = λ none memory bad. c.in-Err.ensures.unread memory
