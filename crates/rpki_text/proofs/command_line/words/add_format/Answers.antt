use Rattle.std.proofs.Common.{refl}
use Rattle.rpki_text.specs.CommandLines.{output}
use Rattle.rpki_text.proofs.command_line.words.add_format.Goals as goal

pub returns-in-Some-clause-added : goal.returns-in-Some-clause-added
returns-in-Some-clause-added c = (output c.in-Some.format, (c.in-Some.format, refl, c.in-Some.ensures.named), refl)
