use Rattle.std.proofs.Common.{◌≡◌, length}
use Rattle.std.specs.Int.Digits.{number_from_digits}
use Rattle.rpki_der.specs.Values.{AreOctets}
use Rattle.rpki_der.proofs.integer.significant.Given as goal

abbrev pub invariant-loop-digits : goal.invariant-loop-digits
invariant-loop-digits l =
    record {
      same : number_from_digits 256 l.digits ≡ number_from_digits 256 l.initial.digits;
      octets : AreOctets
          l.digits;
    }

abbrev pub decreases-loop-digits : goal.decreases-loop-digits
decreases-loop-digits l = length l.digits
