use Rattle.rpki_der.specs.Serials.{IsSerial}
use Rattle.rpki_der.specs.Primitives.{number}
use Rattle.rpki_der.proofs.Formats.{unambiguous}
use Rattle.rpki_der.proofs.Numbers.{serial_format}
use Rattle.rpki_der.proofs.RoundTrips.{serial_made, begins, begins_one}
use Rattle.rpki_der.proofs.laws.serial_again.Goals as goal

pub returns : goal.returns
returns c = record {
  read = λ n rest h. begins IsSerial n (number n) rest (serial_made n h);
  alone = λ n m rest tail h b. begins_one IsSerial (unambiguous IsSerial serial_format) n m (number n) rest tail (serial_made n h) b;
}
