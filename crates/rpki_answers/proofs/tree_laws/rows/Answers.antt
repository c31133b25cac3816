use Rattle.rpki_answers.proofs.TreeRowLaws.{add_up, begin_with_word}
use Rattle.rpki_answers.proofs.tree_laws.rows.Goals as goal

pub returns-clause-words : goal.returns-clause-words
returns-clause-words c = begin_with_word

pub returns-clause-counts : goal.returns-clause-counts
returns-clause-counts c = add_up
