use Rattle.std.proofs.Common.{string_bytes}
use Rattle.rpki_answers.proofs.showing.show.Goals as goal

pub returns-clause-text : goal.returns-clause-text
returns-clause-text c =
    (string_bytes c.in_ok-it.it.text, c.in_ok-it.ensures.text, rw c.as_str.ensures.value at c.in_ok-push_str.ensures.bytes)
