use Rattle.rpki_der.specs.Times.{IsTime, time}
use Rattle.rpki_der.proofs.Formats.{unambiguous}
use Rattle.rpki_der.proofs.Moments.{time_format}
use Rattle.rpki_der.proofs.RoundTrips.{moment_made, begins, begins_one}
use Rattle.rpki_der.proofs.laws.time_again.Goals as goal

pub returns : goal.returns
returns c = record {
  read = λ m rest h. begins IsTime m (time m) rest (moment_made m h);
  alone = λ m n rest tail h b. begins_one IsTime (unambiguous IsTime time_format) m n (time m) rest tail (moment_made m h) b;
}
