-- What is written of a serial or a time is short, and so it is read again.
use Rattle.std.specs.Int.Digits.{digits_of}
use Rattle.std.proofs.Common.{◌≡◌, ℕ, ◌+◌, ◌/◌, ◌%◌, ◌^◌, ◌<◌, ◌≤◌, ◌⊎◌, List, [], ◌∷◌, ◌++◌, length, refl, sym, ap, ◌∙◌, arith, inl, inr}
use Rattle.std.proofs.lemmas.Bool.{cases_lt, lt-ltb, le-ltb}
use Rattle.std.proofs.lemmas.Int.Digits.{length-digits_of-le}
use Rattle.std.proofs.lemmas.List.{append_cancel_left}
use Rattle.rpki_der.specs.Serials.{IsSerial}
use Rattle.rpki_der.specs.Encoding.{Begins}
use Rattle.rpki_der.specs.Times.{Moment, IsMoment, IsTime, two, after_year, time}
use Rattle.rpki_der.specs.Values.{enc, IsUnambiguous}
use Rattle.rpki_der.specs.Primitives.{unsigned, number}
use Rattle.rpki_der.specs.Tags.{GENERALIZED_TIME, INTEGER, UTC_TIME}
use Rattle.rpki_der.proofs.Lengths.{length_short}
use Rattle.rpki_der.proofs.ValueWritten.{number_made, time_made}
use Rattle.rpki_der.proofs.WrittenOctets.{ok_number, ok_time}
use Rattle.rpki_der.proofs.TimeWritten.{utc_written, generalized_written}

-- a value with fewer than 128 octets of content has two octets more
pub enc_small : (t : ℕ) (c : List ℕ) → length c < 128 → length (enc t c) ≡ 2 + length c
unfolding enc
enc_small t c h = rw (length_short (length c) h) (omega arith)

-- an INTEGER's content has at most one octet more than the number
pub unsigned_small : (ds : List ℕ) → length (unsigned ds) ≤ length ds + 1
unsigned_small [] = omega arith
unsigned_small (d ∷ ds) = elim (cases_lt d 128) [
  | inl low ↦ rw (lt-ltb d 128 low) (omega arith)
  | inr high ↦ rw (le-ltb d 128 high) (omega arith)
]

-- what is written of a serial number encodes it
pub serial_made : (n : ℕ) → n < 2 ^ 160 → IsSerial n (number n)
unfolding number
serial_made n h =
    let digits = length-digits_of-le 256 20 n (omega arith) h in
    let content = unsigned_small (digits_of 256 n) in
    let whole = enc_small INTEGER (unsigned (digits_of 256 n)) (omega arith) in
    let short : length (number n) < 2 ^ 32 = omega (arith, whole, content, digits) in
    record { number = number_made n (short, ok_number n short); small = h }

utc_small : (m : Moment) → 1950 ≤ m.year → m.year < 2050 → length (time m) < 2 ^ 32
utc_small m p q = rw (utc_written m p q, enc_small UTC_TIME (two (m.year % 100) ++ after_year m) (omega arith)) (omega arith)

generalized_small : (m : Moment) → (m.year < 1950) ⊎ (2050 ≤ m.year) → length (time m) < 2 ^ 32
generalized_small m h =
    rw (
      generalized_written m h,
      enc_small GENERALIZED_TIME (two (m.year / 100) ++ (two (m.year % 100) ++ after_year m)) (omega arith),
    )
    (omega arith)

time_small : (m : Moment) → length (time m) < 2 ^ 32
time_small m =
    elim (cases_lt m.year 1950) [
      | inl before ↦ generalized_small m (inl before)
      | inr from ↦ elim (cases_lt m.year 2050) [ inl below ↦ utc_small m from below | inr after ↦ generalized_small m (inr after) ]
    ]

-- what is written of a moment encodes it
pub moment_made : (m : Moment) → IsMoment m → IsTime m (time m)
moment_made m h = time_made m h (time_small m, ok_time m h (time_small m))

-- what is written begins with its value, and with no other
pub begins : {V : Type 0} (encodes : V → List ℕ → Type 0) (v : V) (text rest : List ℕ) → encodes v text →
    Begins encodes (text ++ rest) v rest
begins encodes v text rest s = record { text = text; encoded = s; parts = refl }

-- octets that begin with one value begin with no other
pub begins_one : {V : Type 0} (encodes : V → List ℕ → Type 0) → IsUnambiguous encodes →
    (v w : V) (text rest tail : List ℕ) → encodes v text → Begins encodes (text ++ rest) w tail →
    (w ≡ v) × (tail ≡ rest)
begins_one encodes one v w text rest tail s b =
    let same = one v w text b.text rest tail s b.encoded b.parts in
    (sym same.0, append_cancel_left text tail rest (ap (λ (x : List ℕ). x ++ tail) same.1 ∙ sym b.parts))
