use Rattle.std.proofs.Common.{refl}
use Rattle.rpki_der.specs.Values.{enc, length_octets}
use Rattle.rpki_ext.specs.ExtensionKinds.{basic_constraints_format}
use Rattle.rpki_ext.proofs.basic_constraints.written.Goals as goal

pub returns-then-ca : goal.returns-then-ca
unfolding basic_constraints_format enc length_octets
returns-then-ca c = rw c.if-ca.true refl

pub returns-else-ca : goal.returns-else-ca
unfolding basic_constraints_format enc length_octets
returns-else-ca c = rw c.if-ca.false refl
