-- The reading function of a serial number.
use Rattle.std.specs.Prelude.{ℕ, ◌^◌, List, Option}
use Rattle.rpki_der.specs.Primitives.Reading.{number_below}
use Rattle.rpki_der.specs.Reading.{content}
use Rattle.rpki_der.specs.Tags.{INTEGER}

-- the number of a serial number's content
abbrev pub serial_of : List ℕ → Option ℕ
serial_of = number_below (2 ^ 160)

-- reads a serial number
unfoldable pub serial_at : List ℕ → Option (ℕ × List ℕ)
serial_at = content INTEGER serial_of
