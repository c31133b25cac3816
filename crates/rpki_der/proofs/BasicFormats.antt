-- The formats that others are made of are lawful.
use Rattle.std.proofs.Common.{◌≡◌, ℕ, Bool, true, false, List, [], ◌∷◌, ◌^◌, length, Some, None, refl, ap, inl, inr, arith, ◌<◌, ◌≤◌}
use Rattle.rpki_der.specs.Values.{enc, IsEnc, IsValue}
use Rattle.rpki_der.specs.Encoding.{BeginsOther}
use Rattle.rpki_der.specs.Reading.{content, optional, map_value}
use Rattle.rpki_der.specs.Primitives.{IsBits, IsBoolOrFalse, IsObjectIdentifier, IsNull, IsU32, IsUnsigned, number}
use Rattle.rpki_der.specs.Primitives.Reading.{bits_at, bits_of, number_below, oid_at, oid_of, bool_or_false_at}
use Rattle.rpki_der.specs.Primitives.Reading.{null_at, null_of, or_false, bool_at, bool_of, u32_at, unsigned_at}
use Rattle.rpki_der.specs.Primitives.Reading.{unsigned_of}
use Rattle.rpki_der.specs.Serials.{IsSerial}
use Rattle.rpki_der.specs.Serials.Reading.{serial_at, serial_of}
use Rattle.rpki_der.specs.Times.{Moment, IsTime}
use Rattle.rpki_der.specs.Times.Reading.{time_at, utc_of, generalized_of}
use Rattle.rpki_der.specs.Skipping.{IsCaptured, IsSkipped, IsSkippableWithin, levels}
use Rattle.rpki_der.specs.Skipping.Reading.{captured_at, skip_at}
use Rattle.rpki_der.specs.Tags.{BIT_STRING, BOOLEAN, OBJECT_IDENTIFIER, OCTET_STRING, INTEGER, NULL, UTC_TIME, GENERALIZED_TIME}
use Rattle.rpki_der.specs.Formats.{IsLawful, Follows, Starts}
use Rattle.rpki_der.specs.BasicFormats.{octet_string, object_identifier, boolean_default_false, null_format}
use Rattle.rpki_der.specs.BasicFormats.{time_format, serial_format, u32_format, unsigned_format, bit_string}
use Rattle.rpki_der.specs.BasicFormats.{any_value, skippable_value}
use Rattle.rpki_der.proofs.Octets.{bind_some, both_are, some}
use Rattle.rpki_der.proofs.Readings.{before}
use Rattle.rpki_der.proofs.IdentifierReads.{oid_reads}
use Rattle.rpki_der.proofs.SerialReads.{serial_reads}
use Rattle.rpki_der.proofs.TimeReads.{time_reads}
use Rattle.rpki_der.proofs.PrimitiveReads.{bits_reads, bool_or_false_reads, null_reads, u32_reads, unsigned_reads}
use Rattle.rpki_der.proofs.Choices.{content_shrinks, choice_shrinks, enc_begins}
use Rattle.rpki_der.proofs.RoundTrips.{serial_made, moment_made}
use Rattle.rpki_der.proofs.SkippingReads.{captured_reads, captured_some, skip_reads}
use Rattle.rpki_der.proofs.SkippingSteps.{within_shrinks}
use Rattle.rpki_der.proofs.ValueWritten.{identifier_made, flag_made, number_made}
use Rattle.rpki_der.proofs.WrittenOctets.{value_octets, ok_flag, ok_time, ok_number, literal, ok_enc}
use Rattle.rpki_der.proofs.FormatLaws.{own_value_lawful, any_octets_lawful, weaker, other_follows, optional_shorter}

-- an OCTET STRING
pub octet_string_lawful : IsLawful octet_string
octet_string_lawful = any_octets_lawful OCTET_STRING (omega arith) (omega arith)

begins_so : {t : ℕ} {c text : List ℕ} → IsEnc t c text → (tail : List ℕ) × (text ≡ t ∷ tail)
begins_so {t} {c} {text} s = enc_begins t c text s

-- an OBJECT IDENTIFIER
pub object_identifier_lawful : IsLawful object_identifier
unfolding oid_at
object_identifier_lawful =
    own_value_lawful OBJECT_IDENTIFIER IsObjectIdentifier oid_at _ (enc OBJECT_IDENTIFIER) _ oid_reads
    (λ id text s. begins_so s.enc) (content_shrinks OBJECT_IDENTIFIER oid_of)
    (λ id fits short. ok_enc OBJECT_IDENTIFIER id (omega arith) (λ l. fits.1) short)
    (λ id fits short. identifier_made id fits.0 (short, ok_enc OBJECT_IDENTIFIER id (omega arith) (λ l. fits.1) short))

-- NULL
pub null_lawful : IsLawful null_format
unfolding null_at
null_lawful = own_value_lawful NULL IsNull null_at _ _ _ null_reads (λ u text s. (0 ∷ [], s))
    (content_shrinks NULL null_of) (λ u fits short. literal (NULL ∷ 0 ∷ []) refl) (λ u fits short. refl)

-- a serial number
pub serial_lawful : IsLawful serial_format
unfolding serial_at
serial_lawful = own_value_lawful INTEGER IsSerial serial_at _ number _ serial_reads
    (λ n text s. begins_so s.number.enc) (content_shrinks INTEGER serial_of) (λ n fits short. ok_number n short)
    (λ n fits short. serial_made n fits)

-- an INTEGER from 0 to 2^32 - 1
pub u32_lawful : IsLawful u32_format
unfolding u32_at
u32_lawful =
    own_value_lawful INTEGER IsU32 u32_at _ number _ u32_reads (λ n text s. begins_so s.number.enc)
    (content_shrinks INTEGER (number_below (2 ^ 32))) (λ n fits short. ok_number n short)
    (λ n fits short. record { number = number_made n (short, ok_number n short); small = fits })

-- an INTEGER from 0 on, kept as its content
pub unsigned_lawful : IsLawful unsigned_format
unfolding unsigned_at
unsigned_lawful = own_value_lawful INTEGER IsUnsigned unsigned_at _ (enc INTEGER) _ unsigned_reads
    (λ c text s. begins_so s.enc) (content_shrinks INTEGER unsigned_of) (λ c fits short. value_octets fits.enc)
    (λ c fits short. fits)

-- a BIT STRING
pub bit_string_lawful : IsLawful bit_string
unfolding bits_at
bit_string_lawful = own_value_lawful BIT_STRING IsBits bits_at _ _ _ bits_reads (λ v text s. begins_so s.enc)
    (content_shrinks BIT_STRING bits_of) (λ v fits short. value_octets fits.enc) (λ v fits short. fits)

flag_starts : (b : Bool) (text : List ℕ) → IsBoolOrFalse b text → Starts (Some (BOOLEAN ∷ [])) 0 text
flag_starts true text s = rw s refl
flag_starts false text s = elim s [ inl e ↦ rw e refl | inr e ↦ rw e refl ]

flag_shorter : (octets : List ℕ) (b : Bool) (rest : List ℕ) → map_value or_false (optional BOOLEAN bool_at) octets ≡
    Some (b, rest) → length rest ≤ length octets
unfolding bool_at
flag_shorter octets b rest e =
    let a = bind_some (optional BOOLEAN bool_at octets) (λ x. some {A = Bool × List ℕ} (or_false x.0, x.1)) (b, rest) e in
    let same : a.0.1 ≡ rest = (both_are {A = Bool} {B = List ℕ} (or_false a.0.0, a.0.1) (b, rest) a.2).1 in
    let less = optional_shorter BOOLEAN bool_at
    (λ bytes v left g. omega (arith, content_shrinks BOOLEAN bool_of bytes v left g)) octets a.0.0 a.0.1 a.1 in
    omega (arith, ap length same)

-- a BOOLEAN DEFAULT FALSE
pub boolean_default_false_lawful : IsLawful boolean_default_false
unfolding bool_or_false_at
boolean_default_false_lawful = record {
  reads = weaker (BeginsOther BOOLEAN) (Follows (BOOLEAN ∷ [])) bool_or_false_at IsBoolOrFalse (other_follows BOOLEAN) bool_or_false_reads;
  starts = flag_starts;
  shorter = λ octets b rest e. omega (arith, flag_shorter octets b rest e);
  octets = λ b fits short. ok_flag b;
  made = λ b fits short. flag_made b;
}

time_starts : (m : Moment) (text : List ℕ) → IsTime m text → Starts (Some (UTC_TIME ∷ GENERALIZED_TIME ∷ [])) 1 text
unfolding enc
time_starts m text s = elim s.encoded [ inl u ↦ rw u.2.is refl | inr g ↦ rw g.is refl ]

-- a Time
pub time_lawful : IsLawful time_format
unfolding time_at
time_lawful = record {
  reads = before (Follows []) time_at IsTime time_reads;
  starts = time_starts;
  shorter = λ octets m rest e.
      omega (
        arith,
        choice_shrinks UTC_TIME (content UTC_TIME utc_of) (content GENERALIZED_TIME generalized_of)
            (content_shrinks UTC_TIME utc_of) (content_shrinks GENERALIZED_TIME generalized_of) octets m rest e,
      );
  octets = λ m fits short. ok_time m fits short;
  made = λ m fits short. moment_made m fits;
}

-- ---- of any tag

some_start : (text : List ℕ) → 0 < length text → Starts None 1 text
some_start [] some = absurd (omega arith)
some_start (n ∷ text) some = refl

value_some : (text : List ℕ) → IsValue text → 0 < length text
unfolding enc
value_some text v = omega (arith, ap length v.enc.is)

-- a value of any tag
pub any_value_lawful : IsLawful any_value
any_value_lawful = record {
  reads = before (Follows []) captured_at IsCaptured captured_reads;
  starts = λ octets text s. some_start text (value_some text s.0);
  shorter = λ octets found rest e. omega (arith, captured_some octets found rest e);
  octets = λ octets fits short. value_octets fits.enc;
  made = λ octets fits short. (fits, refl);
}

-- a value that is skipped
pub skippable_value_lawful : IsLawful skippable_value
unfolding enc skip_at IsSkippableWithin
skippable_value_lawful = record {
  reads = before (Follows []) skip_at IsSkipped skip_reads;
  starts = λ u text s. some_start text (value_some text s.0);
  shorter = λ octets u rest e. omega (arith, within_shrinks levels octets u rest e);
  octets = λ u fits short. absurd fits;
  made = λ u fits short. absurd fits;
}
