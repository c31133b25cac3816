-- Identifier octets of DER (X.690 8.1.2; X.680 8.6, 42). The octet of a constructed value is 0x20
-- more.
use Rattle.std.specs.Prelude.{ℕ, ◌+◌}

-- [UNIVERSAL 1]
abbrev pub BOOLEAN : ℕ
BOOLEAN = 0x01

-- [UNIVERSAL 2]
abbrev pub INTEGER : ℕ
INTEGER = 0x02

-- [UNIVERSAL 3], primitive in DER
abbrev pub BIT_STRING : ℕ
BIT_STRING = 0x03

-- [UNIVERSAL 4], primitive in DER
abbrev pub OCTET_STRING : ℕ
OCTET_STRING = 0x04

-- [UNIVERSAL 5]
abbrev pub NULL : ℕ
NULL = 0x05

-- [UNIVERSAL 6]
abbrev pub OBJECT_IDENTIFIER : ℕ
OBJECT_IDENTIFIER = 0x06

-- [UNIVERSAL 12]
abbrev pub UTF8_STRING : ℕ
UTF8_STRING = 0x0C

-- [UNIVERSAL 19]
abbrev pub PRINTABLE_STRING : ℕ
PRINTABLE_STRING = 0x13

-- [UNIVERSAL 23]
abbrev pub UTC_TIME : ℕ
UTC_TIME = 0x17

-- [UNIVERSAL 24]
abbrev pub GENERALIZED_TIME : ℕ
GENERALIZED_TIME = 0x18

-- [UNIVERSAL 16], constructed; of SEQUENCE OF too
abbrev pub SEQUENCE : ℕ
SEQUENCE = 0x30

-- [UNIVERSAL 17], constructed; of SET OF too
abbrev pub SET : ℕ
SET = 0x31

-- [n], primitive; n is below 31
abbrev pub CONTEXT : ℕ → ℕ
CONTEXT n = 0x80 + n

-- [n], constructed; n is below 31
abbrev pub CONTEXT_CONSTRUCTED : ℕ → ℕ
CONTEXT_CONSTRUCTED n = 0xA0 + n
