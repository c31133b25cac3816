-- The formats that others are made of.
use Rattle.std.specs.Prelude.{ℕ, Bool, List, [], ◌∷◌, Option, Some, None, ◌^◌, ◌<◌}
use Rattle.std.specs.Int.Digits.{digits_of}
use Rattle.rpki_der.specs.Formats.{Format, any_octets, own_value}
use Rattle.rpki_der.specs.Primitives.{IsBits, IsBoolOrFalse, IsObjectIdentifier, IsOid, IsNull, IsU32, IsUnsigned}
use Rattle.rpki_der.specs.Primitives.{null, bool_or_false, unsigned, number}
use Rattle.rpki_der.specs.Primitives.Reading.{bits_at, bool_or_false_at, oid_at, null_at, u32_at, unsigned_at}
use Rattle.rpki_der.specs.Serials.{IsSerial}
use Rattle.rpki_der.specs.Serials.Reading.{serial_at}
use Rattle.rpki_der.specs.Skipping.{IsCaptured, IsSkipped}
use Rattle.rpki_der.specs.Skipping.Reading.{captured_at, skip_at}
use Rattle.rpki_der.specs.Tags.{BIT_STRING, BOOLEAN, INTEGER, OBJECT_IDENTIFIER, OCTET_STRING, NULL, UTC_TIME, GENERALIZED_TIME}
use Rattle.rpki_der.specs.Times.{Moment, IsMoment, IsTime, time}
use Rattle.rpki_der.specs.Times.Reading.{time_at}
use Rattle.rpki_der.specs.Values.{AreOctets, IsValue, enc}

-- OCTET STRING
abbrev pub octet_string : Format (List ℕ)
octet_string = any_octets OCTET_STRING

-- OBJECT IDENTIFIER
abbrev pub object_identifier : Format (List ℕ)
object_identifier = own_value OBJECT_IDENTIFIER IsObjectIdentifier oid_at (λ id. IsOid id × AreOctets id) (enc OBJECT_IDENTIFIER) (λ id. id)

-- NULL
abbrev pub null_format : Format (Unit {0})
null_format = own_value NULL IsNull null_at (λ u. Unit {0}) (λ u. null) (λ u. [])

-- CertificateSerialNumber
abbrev pub serial_format : Format ℕ
serial_format = own_value INTEGER IsSerial serial_at (λ n. n < 2 ^ 160) number (λ n. unsigned (digits_of 256 n))

-- INTEGER (0..4294967295)
abbrev pub u32_format : Format ℕ
u32_format = own_value INTEGER IsU32 u32_at (λ n. n < 2 ^ 32) number (λ n. unsigned (digits_of 256 n))

-- INTEGER (0..MAX), kept as its content
abbrev pub unsigned_format : Format (List ℕ)
unsigned_format = own_value INTEGER IsUnsigned unsigned_at (λ content. IsUnsigned content (enc INTEGER content))
    (enc INTEGER) (λ content. content)

-- BIT STRING, as the count of unused bits and the octets
abbrev pub bit_string : Format (ℕ × List ℕ)
bit_string = own_value BIT_STRING IsBits bits_at (λ v. IsBits v (enc BIT_STRING (v.0 ∷ v.1)))
    (λ v. enc BIT_STRING (v.0 ∷ v.1)) (λ v. v.0 ∷ v.1)

-- BOOLEAN DEFAULT FALSE
abbrev pub boolean_default_false : Format Bool
boolean_default_false = record {
  encodes = IsBoolOrFalse;
  read = bool_or_false_at;
  fits = λ b. Unit {0};
  written = bool_or_false;
  inside = bool_or_false;
  heads = Some (BOOLEAN ∷ []);
  least = 0;
  shut = BOOLEAN ∷ [];
}

-- Time
abbrev pub time_format : Format Moment
time_format = record {
  encodes = IsTime;
  read = time_at;
  fits = IsMoment;
  written = time;
  inside = time;
  heads = Some (UTC_TIME ∷ GENERALIZED_TIME ∷ []);
  least = 1;
  shut = [];
}

-- ---- of any tag

-- a value of any tag
abbrev pub unnamed_value : {V : Type 0} → (V → List ℕ → Type 0) → (List ℕ → Option (V × List ℕ)) → (V → Type 0) → (V → List ℕ) → Format V
unnamed_value encodes read fits written =
    record {
      encodes = encodes;
      read = read;
      fits = fits;
      written = written;
      inside = λ v. [];
      heads = None;
      least =
          1;
      shut = [];
    }

-- a value that is kept as it stands, its inside untested
abbrev pub any_value : Format (List ℕ)
any_value = unnamed_value IsCaptured captured_at IsValue (λ octets. octets)

-- a value that is skipped: well formed, and not too deep; it can't be written
abbrev pub skippable_value : Format (Unit {0})
skippable_value = unnamed_value IsSkipped skip_at (λ u. ⊥) (λ u. [])
