use Rattle.std.proofs.Common.{refl}
use Rattle.rpki_command.proofs.about.Topic.help.Goals as goal

pub returns-in-Validate : goal.returns-in-Validate
returns-in-Validate c = rw c.in-Validate.is refl

pub returns-in-Tree : goal.returns-in-Tree
returns-in-Tree c = rw c.in-Tree.is refl

pub returns-in-Prepare : goal.returns-in-Prepare
returns-in-Prepare c = rw c.in-Prepare.is refl
