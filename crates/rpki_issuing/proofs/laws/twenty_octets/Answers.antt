use Rattle.rpki_issuing.proofs.TwentyOctets.{short_number, number_short}
use Rattle.rpki_issuing.proofs.laws.twenty_octets.Goals as goal

pub returns : goal.returns
returns c = λ n. (number_short n, short_number n)
