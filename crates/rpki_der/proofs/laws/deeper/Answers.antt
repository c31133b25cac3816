use Rattle.std.proofs.Common.{arith}
use Rattle.rpki_der.proofs.SkippingDepths.{deeper as lemma}
use Rattle.rpki_der.proofs.laws.deeper.Goals as goal

pub returns : goal.returns
returns c = record { general = lemma; to_32 = λ b. lemma 16 32 b (omega arith) }
