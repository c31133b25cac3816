-- What is printed of octets, object identifiers, serial numbers and times.
use Rattle.std.specs.Int.Digits.{digits_of}
use Rattle.std.specs.List.{concat, flat_map}
use Rattle.std.specs.Prelude.{ℕ, ◌+◌, ◌/◌, ◌%◌, nat_lt, if◌then◌else◌, List, [], ◌∷◌, codes}
use Rattle.rpki_der.specs.Times.{Moment, two}

-- an upper-case hexadecimal digit
abbrev pub digit : ℕ → ℕ
digit n = if nat_lt n 10 then 48 + n else 55 + n

-- octets, each in two digits
abbrev pub hexadecimal : List ℕ → List ℕ
hexadecimal octets = flat_map (λ octet. digit (octet / 16) ∷ digit (octet % 16) ∷ []) octets

-- a lower-case hexadecimal digit
abbrev pub lower_digit : ℕ → ℕ
lower_digit n = if nat_lt n 10 then 48 + n else 87 + n

-- an object identifier: its content octets, each in two such digits (own)
abbrev pub oid_text : List ℕ → List ℕ
oid_text content = flat_map (λ octet. lower_digit (octet / 16) ∷ lower_digit (octet % 16) ∷ []) content

-- octets, or one of 0 where there are none
abbrev pub at_least_one : List ℕ → List ℕ
at_least_one [] = 0 ∷ []
at_least_one (octet ∷ octets) = octet ∷ octets

-- a serial number: the octets that it has, the highest first, in hexadecimal
abbrev pub serial_text : ℕ → List ℕ
serial_text n = hexadecimal (at_least_one (digits_of 256 n))

-- YYYY-MM-DD (ISO 8601 5.2.1)
abbrev pub date_text : Moment → List ℕ
date_text m = concat (two (m.year / 100) ∷ two (m.year % 100) ∷ codes "-" ∷ two m.month ∷ codes "-" ∷ two m.day ∷ [])

-- hh:mm:ss
abbrev pub clock_text : Moment → List ℕ
clock_text m = concat (two m.hour ∷ codes ":" ∷ two m.minute ∷ codes ":" ∷ two m.second ∷ [])

-- YYYY-MM-DDThh:mm:ssZ, in UTC (ISO 8601 5.4.2, RFC 3339 5.6)
abbrev pub time_text : Moment → List ℕ
time_text m = concat (date_text m ∷ codes "T" ∷ clock_text m ∷ codes "Z" ∷ [])
