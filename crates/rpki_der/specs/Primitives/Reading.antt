-- The reading functions of values of the primitive types.
use Rattle.std.specs.Int.Digits.{number_from_digits}
use Rattle.std.specs.Prelude.{ℕ, Bool, true, false, List, [], ◌∷◌, nat_eq, if◌then◌else◌, Option, Some, None, ◌&&◌}
use Rattle.std.specs.Prelude.{◌||◌, not, nat_lt, ◌^◌, ◌%◌}
use Rattle.rpki_der.specs.Reading.{content, map_value, optional}
use Rattle.rpki_der.specs.Tags.{BOOLEAN, INTEGER, OCTET_STRING, NULL, BIT_STRING, OBJECT_IDENTIFIER}
use Rattle.rpki_der.specs.Values.Reading.{value_at}

-- BOOLEAN
abbrev pub bool_of : List ℕ → Option Bool
bool_of [] = None
bool_of (n ∷ []) = if nat_eq n 0xFF then Some true else if nat_eq n 0x00 then Some false else None
bool_of (n ∷ m ∷ bytes) = None

-- reads a BOOLEAN
unfoldable pub bool_at : List ℕ → Option (Bool × List ℕ)
bool_at = content BOOLEAN bool_of

-- BOOLEAN with the default false
abbrev pub or_false : Option Bool → Bool
or_false None = false
or_false (Some b) = b

-- reads a BOOLEAN DEFAULT FALSE
unfoldable pub bool_or_false_at : List ℕ → Option (Bool × List ℕ)
bool_or_false_at = map_value or_false (optional BOOLEAN bool_at)

-- INTEGER of a number that isn't negative, and below a limit
abbrev pub is_unsigned : List ℕ → Bool
is_unsigned [] = false
is_unsigned (b ∷ []) = nat_lt b 0x80
is_unsigned (b ∷ c ∷ bytes) = nat_lt b 0x80 && (nat_lt 0 b || not (nat_lt c 0x80))

-- the content, where it is one of an INTEGER of a number that isn't negative
abbrev pub unsigned_of : List ℕ → Option (List ℕ)
unsigned_of c = if is_unsigned c then Some c else None

-- reads an INTEGER from 0 on as its content
unfoldable pub unsigned_at : List ℕ → Option (List ℕ × List ℕ)
unsigned_at = content INTEGER unsigned_of

-- the number of an INTEGER's content, below this bound
abbrev pub number_below : ℕ → List ℕ → Option ℕ
number_below limit c = if is_unsigned c && nat_lt (number_from_digits 256 c) limit then Some (number_from_digits 256 c) else None

-- reads an INTEGER from 0 to 2^32 - 1
unfoldable pub u32_at : List ℕ → Option (ℕ × List ℕ)
u32_at = content INTEGER (number_below (2 ^ 32))

-- OCTET STRING
abbrev pub octets_at : List ℕ → Option (List ℕ × List ℕ)
octets_at = value_at OCTET_STRING

-- NULL
abbrev pub null_of : List ℕ → Option (Unit {0})
null_of [] = Some tt
null_of (b ∷ bytes) = None

-- reads NULL
unfoldable pub null_at : List ℕ → Option (Unit {0} × List ℕ)
null_at = content NULL null_of

-- BIT STRING
abbrev pub has_zero_bits : ℕ → List ℕ → Bool
has_zero_bits unused [] = nat_eq unused 0
has_zero_bits unused (b ∷ octets) = nat_lt unused 8 && nat_eq (number_from_digits 256 (b ∷ octets) % 2 ^ unused) 0

-- the unused bits and the octets of a BIT STRING's content
abbrev pub bits_of : List ℕ → Option (ℕ × List ℕ)
bits_of [] = None
bits_of (unused ∷ octets) = if has_zero_bits unused octets then Some (unused, octets) else None

-- reads a BIT STRING as the count of its unused bits and its octets
unfoldable pub bits_at : List ℕ → Option ((ℕ × List ℕ) × List ℕ)
bits_at = content BIT_STRING bits_of

-- OBJECT IDENTIFIER: whole subidentifiers, behind one that has ended or has not
abbrev pub ends_oid : Bool → List ℕ → Bool
ends_oid has_ended [] = has_ended
ends_oid has_ended (n ∷ id) = not (has_ended && nat_eq n 128) && ends_oid (nat_lt n 128) id

-- whether the content is one of an OBJECT IDENTIFIER
abbrev pub is_oid : List ℕ → Bool
is_oid [] = false
is_oid (n ∷ id) = ends_oid true (n ∷ id)

-- the content, where it is one of an OBJECT IDENTIFIER
abbrev pub oid_of : List ℕ → Option (List ℕ)
oid_of id = if is_oid id then Some id else None

-- reads an OBJECT IDENTIFIER as its content
unfoldable pub oid_at : List ℕ → Option (List ℕ × List ℕ)
oid_at = content OBJECT_IDENTIFIER oid_of
