use Rattle.rpki_parts.proofs.Slashes.{folded}
use Rattle.rpki_text.proofs.notes.access.are_alike.Goals as goal

pub returns : goal.returns
returns c = folded c.eq_ignore_ascii_case.result c.args.text.now c.args.other.now c.eq_ignore_ascii_case.ensures.test
