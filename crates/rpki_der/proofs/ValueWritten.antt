-- What is written of a value encodes it.
use Rattle.std.specs.List.{AllByRecursion, concat}
use Rattle.std.specs.Prelude.{◌≢◌, nat_le, nat_lt, ◌&&◌}
use Rattle.std.specs.Int.Digits.{number_from_digits, digits_of}
use Rattle.std.proofs.Common.{◌≡◌, ◌⊎◌, Bool, true, false, refl, inl, inr, ℕ, ◌^◌, ◌<◌, List, length, ◌≤◌, arith, []}
use Rattle.std.proofs.Common.{◌∷◌, ◌%◌, ◌/◌, get_or, sym, subst, zero, suc, ◌++◌, ap}
use Rattle.std.proofs.lemmas.List.{length-append}
use Rattle.std.proofs.lemmas.Bool.{cases_lt, lt-ltb, le-ltb, leb-true, ltb-true, and_parts}
use Rattle.std.proofs.lemmas.Int.Digits.{first_digits_of, number_digits_of}
use Rattle.rpki_der.proofs.Octets.{AreOctets-parts}
use Rattle.rpki_der.specs.Values.{AreOctets, length_octets, enc, IsEnc, IsNested, nested}
use Rattle.rpki_der.specs.Primitives.{IsInteger, IsNumber, IsOid, IsObjectIdentifier, IsBoolOrFalse, unsigned, number, bool_or_false}
use Rattle.rpki_der.specs.Times.{Moment, two, after_year, IsMoment, IsTime, time}
use Rattle.rpki_der.specs.Tags.{GENERALIZED_TIME, INTEGER, OBJECT_IDENTIFIER, UTC_TIME}

-- a truth value is true or false
pub bool_cases : (b : Bool) → (b ≡ true) ⊎ (b ≡ false)
bool_cases true = inl refl
bool_cases false = inr refl

-- a string that is short enough to be written, of octets
abbrev pub Short : List ℕ → Type 0
Short b = (length b < 2 ^ 32) × AreOctets b

-- a value isn't shorter than its content
pub enc_longer : (t : ℕ) (c : List ℕ) → length c ≤ length (enc t c)
unfolding enc
enc_longer t c = omega (arith, length-append (length_octets (length c)) c)

-- the content of a value that consists of octets does so too
pub enc_octets : (t : ℕ) (c : List ℕ) → AreOctets (enc t c) → AreOctets c
unfolding enc
enc_octets t c h = (AreOctets-parts (length_octets (length c)) c h.1).1

-- a short value has a short content
pub content_short : (t : ℕ) (c : List ℕ) → Short (enc t c) → Short c
content_short t c h = (omega (arith, enc_longer t c, h.0), enc_octets t c h.1)

-- two pieces that are short together are short each
pub append_short : (a b : List ℕ) → Short (a ++ b) → Short a × Short b
append_short a b h =
    let whole = length-append a b in
    let octets = AreOctets-parts a b h.1 in
    ((omega (arith, whole, h.0), octets.0), (omega (arith, whole, h.0), octets.1))

-- pieces that are short together are short each
pub pieces_short : (ps : List (List ℕ)) → Short (concat ps) → AllByRecursion Short ps
pieces_short [] h = tt
pieces_short (p ∷ ps) h = let both = append_short p (concat ps) h in (both.0, pieces_short ps both.1)

-- what is written of a content in a tag is a value
pub made : (t : ℕ) (c : List ℕ) → t % 32 < 31 → Short (enc t c) → IsEnc t c (enc t c)
unfolding enc
made t c tag h = let inside = content_short t c h in record { octet = h.1.0; low_tag = tag; octets = inside.1; short = inside.0; is = refl }

-- what is written of a content in several tags is nested so
pub nested_made : (tags : List ℕ) (c : List ℕ) → AllByRecursion (λ t. t % 32 < 31) tags → Short (nested tags c) →
    IsNested tags c (nested tags c)
nested_made [] c tags h = refl
nested_made (t ∷ ts) c tags h = (nested ts c, made t (nested ts c) tags.0 h, nested_made ts c tags.1 (content_short t (nested ts c) h))

-- a content in tags that is short with them is short
pub nested_short : (tags : List ℕ) (c : List ℕ) → Short (nested tags c) → Short c
nested_short [] c h = h
nested_short (t ∷ ts) c h = nested_short ts c (content_short t (nested ts c) h)

number_from : (n : ℕ) (ds : List ℕ) → (ds ≢ [] → 0 < get_or ds 0 0) → number_from_digits 256 ds ≡ n →
    Short (enc INTEGER (unsigned ds)) → IsNumber n (enc INTEGER (unsigned ds))
number_from n [] first value h =
    record {
      first = 0;
      more = [];
      enc = made INTEGER (0 ∷ []) (omega arith) h;
      shortest = tt;
      not_negative =
          omega arith;
      is = sym value;
    }
number_from n (d ∷ ds) first value h =
    let positive : 0 < d = first (λ e. cc) in
    elim (cases_lt d 128) [
      | inl low ↦
          let is : unsigned (d ∷ ds) ≡ d ∷ ds = rw (lt-ltb d 128 low) in
          let short : Short (enc INTEGER (d ∷ ds)) = subst (λ (c : List ℕ). Short (enc INTEGER c)) is h in
          let result : IsNumber n (enc INTEGER (d ∷ ds)) =
          record {
            first = d;
            more = ds;
            enc = made INTEGER (d ∷ ds) (omega arith) short;
            shortest =
                integer d ds positive low;
            not_negative = low;
            is = sym value;
          } in
          subst (λ (c : List ℕ). IsNumber n (enc INTEGER c)) (sym is) result
      | inr high ↦
          let is : unsigned (d ∷ ds) ≡ 0 ∷ d ∷ ds = rw (le-ltb d 128 high) in
          let short : Short (enc INTEGER (0 ∷ d ∷ ds)) = subst (λ (c : List ℕ). Short (enc INTEGER c)) is h in
          let result : IsNumber n (enc INTEGER (0 ∷ d ∷ ds)) =
          record {
            first = 0;
            more = d ∷ ds;
            enc = made INTEGER (0 ∷ d ∷ ds) (omega arith) short;
            shortest =
                ((λ e. high), λ e. absurd (omega arith));
            not_negative = omega arith;
            is = sym value;
          } in
          subst (λ (c : List ℕ). IsNumber n (enc INTEGER c)) (sym is) result
    ]
  where
    integer : (d : ℕ) (ds : List ℕ) → 0 < d → d < 128 → IsInteger (d ∷ ds)
    integer d [] p low = tt
    integer d (y ∷ ds) p low = ((λ e. absurd (omega arith)), λ e. absurd (omega arith))

-- what is written of a number encodes it, if short
pub number_made : (n : ℕ) → Short (number n) → IsNumber n (number n)
unfolding number
number_made zero h = number_from 0 [] (λ e. absurd (e refl)) refl h
number_made (suc n) h = number_from (suc n) (digits_of 256 (suc n))
    (λ e. first_digits_of 256 (suc n) (omega arith) (omega arith)) (number_digits_of 256 (suc n) (omega arith)) h

-- what is written of a moment encodes it, where it is short
pub time_made : (m : Moment) → IsMoment m → Short (time m) → IsTime m (time m)
unfolding time
time_made m e h =
    elim (bool_cases (nat_le 1950 m.year && nat_lt m.year 2050)) [
      | inl t ↦
          let r = and_parts _ _ t in
          let short : Short (enc UTC_TIME (two (m.year % 100) ++ after_year m)) = rw t at h in
          record {
            exists = e;
            encoded =
                rw t (inl (leb-true 1950 m.year r.0, ltb-true m.year 2050 r.1, made UTC_TIME _ (omega arith) short));
          }
      | inr f ↦
          let short : Short (enc GENERALIZED_TIME (two (m.year / 100) ++ (two (m.year % 100) ++ after_year m))) = rw f at h in
          record { exists = e; encoded = rw f (inr (made GENERALIZED_TIME _ (omega arith) short)) }
    ]

abbrev Plain : List ℕ → Type 0
Plain id = AllByRecursion (λ k. k < 128) id

plain_apart : (x y : List ℕ) → Plain (x ++ 128 ∷ y) → ⊥
plain_apart [] y h = omega (arith, h.0)
plain_apart (k ∷ x) y h = plain_apart x y h.1

last_of : (k : ℕ) (id : List ℕ) → Plain (k ∷ id) → (front : List ℕ) × (last : ℕ) × (k ∷ id ≡ front ++ last ∷ []) × (last < 128)
last_of k [] h = ([], k, refl, h.0)
last_of k (l ∷ id) h = let r = last_of l id h.1 in (k ∷ r.0, r.1, ap (λ (x : List ℕ). k ∷ x) r.2, r.3)

-- octets below 80 are the content of an OBJECT IDENTIFIER
pub plain_oid : (k : ℕ) (id : List ℕ) → Plain (k ∷ id) → IsOid (k ∷ id)
plain_oid k id h =
    let r = last_of k id h in
    record {
      front = r.0;
      last = r.1;
      is = r.2;
      ends = r.3;
      no_padding =
          λ x y e. absurd (plain_apart x y (subst (λ (s : List ℕ). Plain s) e h));
    }

-- what is written of an identifier encodes it, if short
pub identifier_made : (id : List ℕ) → IsOid id → Short (enc OBJECT_IDENTIFIER id) → IsObjectIdentifier id (enc OBJECT_IDENTIFIER id)
identifier_made id oid h = record { enc = made OBJECT_IDENTIFIER id (omega arith) h; oid = oid }

-- what is written of a flag encodes it
pub flag_made : (v : Bool) → IsBoolOrFalse v (bool_or_false v)
flag_made true = refl
flag_made false = inl refl
