use Rattle.std.proofs.Common.{refl}
use Rattle.rpki_command.proofs.about.text_about.Goals as goal

pub returns-in-Help-clause-text : goal.returns-in-Help-clause-text
returns-in-Help-clause-text c = rw c.in-Help.is c.help.ensures

pub returns-in-Version-clause-text : goal.returns-in-Version-clause-text
returns-in-Version-clause-text c = rw c.in-Version.is refl
