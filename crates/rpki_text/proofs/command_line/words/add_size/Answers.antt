use Rattle.std.proofs.Common.{refl}
use Rattle.rpki_text.specs.CommandLines.{max_size}
use Rattle.rpki_text.proofs.command_line.words.add_size.Goals as goal

pub returns-in-Some-clause-added : goal.returns-in-Some-clause-added
returns-in-Some-clause-added c = (max_size c.in-Some.size, (c.in-Some.size, refl, c.in-Some.ensures), refl)
