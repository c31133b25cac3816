-- What a writer appends to a vector, and what it promises.
use Rattle.std.specs.Prelude.{◌≡◌, ℕ, ◌^◌, ◌<◌, ◌≤◌, ◌↔◌, List, ◌++◌, length, take, drop, Result, Err, IsOk, IfErr, OnOk, OnErr, IsErrOf}
use Rattle.std.specs.Int.Digits.{digits_of}
use Rattle.rpki_der.specs.Primitives.{unsigned, number}
use Rattle.rpki_der.specs.Values.{enc}
use Rattle.rpki_der.specs.declared.error.EncodeError.{EncodeError}
use Rattle.rpki_der.specs.declared.error.EncodeError.TheVariants.{TooLong}

-- the octets that are written, and those inside that have to be fewer than 2^32 (own)
pub record Part : Type 0 where
  pub written : List ℕ
  pub inside : List ℕ

-- a value
abbrev pub value : ℕ → List ℕ → Part
value tag content = record { written = enc tag content; inside = content }

-- an INTEGER from 0 on
abbrev pub number_part : ℕ → Part
number_part n = record { written = number n; inside = unsigned (digits_of 256 n) }

-- TooLong means that these octets are 2^32 or more
abbrev pub SaysLong : {T : Type 0} → Result T EncodeError → List ℕ → Type 0
SaysLong r octets = IsErrOf r TooLong → 2 ^ 32 ≤ length octets

-- What the writer of a part did: it appended the whole part, or left the octets as they were. It
-- goes well only where what stands inside has fewer than 2^32 octets, and TooLong says that it has
-- not.
pub record Writes {T : Type 0} (p : Part) (old : List ℕ) (r : Result T EncodeError) (new : List ℕ) : Type 0 where
  pub ok : OnOk r (new ≡ old ++ p.written)
  pub err : OnErr r (new ≡ old)
  pub fits : OnOk r (length p.inside < 2 ^ 32)
  pub too_long : SaysLong r p.inside

-- What a writer did that answers TooLong wherever what stands inside is too long.
pub record WritesOrTooLong {T : Type 0} (p : Part) (old : List ℕ) (r : Result T EncodeError) (new : List ℕ) : Type 0 where
  pub ok : OnOk r (new ≡ old ++ p.written)
  pub err : OnErr r (new ≡ old)
  pub too_long : IsErrOf r TooLong ↔ (2 ^ 32 ≤ length p.inside)

-- What ended a part whose content was appended behind so many octets, with this outcome: it made
-- the part of what stands there, or cut it off and handed the error on. It answers TooLong wherever
-- what stands inside is too long.
pub record Ends (p : List ℕ → Part) (start : ℕ) (old : List ℕ) (content r : Result (Unit {0}) EncodeError) (new : List ℕ) : Type 0 where
  pub went_well : OnOk r (IsOk content)
  pub ok : OnOk r (new ≡ take start old ++ (p (drop start old)).written)
  pub err : OnErr r (new ≡ take start old)
  pub handed_on : IfErr content (λ e. r ≡ Err e)
  pub too_long : IsOk content → IsErrOf r TooLong ↔ (2 ^ 32 ≤ length (p (drop start old)).inside)
