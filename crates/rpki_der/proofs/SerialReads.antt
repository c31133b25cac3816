-- A serial that is read is the serial that was written.
use Rattle.std.proofs.Common.{◌^◌, ◌<◌}
use Rattle.rpki_der.specs.Primitives.{IsNumber}
use Rattle.rpki_der.specs.Reading.{content, Reads}
use Rattle.rpki_der.specs.Serials.Reading.{serial_of, serial_at}
use Rattle.rpki_der.specs.Serials.{IsSerial}
use Rattle.rpki_der.specs.Tags.{INTEGER}
use Rattle.rpki_der.proofs.Readings.{same_reads}
use Rattle.rpki_der.proofs.PrimitiveReads.{number_reads}

-- a serial number is read as it is encoded
pub serial_reads : Reads serial_at IsSerial
unfolding serial_at
serial_reads =
    same_reads (content INTEGER serial_of) (λ n b. IsNumber n b × (n < 2 ^ 160)) IsSerial (number_reads (2 ^ 160))
    (λ n text s. record { number = s.0; small = s.1 })
    (λ n text s. (s.number, s.small))
