use Rattle.std.proofs.Common.{refl}
use Rattle.rpki_der.specs.Values.{enc, length_octets}
use Rattle.rpki_parts.specs.Keys.{key_algorithm_format}
use Rattle.rpki_parts.proofs.key.PublicKeyFormat.algorithm.Goals as goal

pub returns-in-Rsa : goal.returns-in-Rsa
unfolding key_algorithm_format enc length_octets
returns-in-Rsa c = rw c.in-Rsa.is refl

pub returns-in-EcdsaP256 : goal.returns-in-EcdsaP256
unfolding key_algorithm_format enc length_octets
returns-in-EcdsaP256 c = rw c.in-EcdsaP256.is refl
