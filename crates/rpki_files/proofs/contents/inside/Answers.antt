use Rattle.rpki_files.proofs.FirstInside.{entered, gone_in}
use Rattle.rpki_files.proofs.contents.inside.Goals as goal

pub returns-clause-found : goal.returns-clause-found
returns-clause-found c = λ content means.
    rw c.ok.ensures.value
    (entered c.fork-ahead.result c.take_sequence.new.self c.take_sequence.result
    c.take_sequence.ensures.answers.encoded content (rw c.fork-ahead.ensures.same means))

pub returns-clause-means : goal.returns-clause-means
returns-clause-means c =
    rw c.ok.ensures.value
    (rw c.fork-ahead.ensures.same
    at (gone_in c.fork-ahead.result c.take_sequence.new.self c.take_sequence.result
    c.take_sequence.ensures.answers.encoded))
