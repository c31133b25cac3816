-- The five forms of a length.
use Rattle.std.specs.Int.Digits.{digits_of}
use Rattle.std.proofs.Common.{◌≡◌, ℕ, ◌/◌, ◌%◌, ◌<◌, ◌^◌, [], ◌∷◌, ◌++◌, ap, ◌∙◌, arith, ◌≤◌, List}
use Rattle.std.proofs.lemmas.Int.Digits.{digits_of_step}
use Rattle.std.proofs.lemmas.Bool.{lt-ltb, le-ltb}
use Rattle.rpki_der.specs.Values.{length_octets}

-- a number from 1 to 255 is one digit of base 256
pub one_digit : (n : ℕ) → 0 < n → n < 256 → digits_of 256 n ≡ n ∷ []
one_digit n h l =
    let none : n / 256 ≡ 0 = omega arith in
    let same : n % 256 ≡ n = omega arith in
    digits_of_step 256 n (omega arith) h ∙ ap (λ (k : ℕ). digits_of 256 k ++ (n % 256) ∷ []) none ∙ ap (λ (k : ℕ). k ∷ []) same

two_digits : (n : ℕ) → 256 ≤ n → n < 65536 → digits_of 256 n ≡ (n / 256) ∷ (n % 256) ∷ []
two_digits n h l = digits_of_step 256 n (omega arith) (omega arith) ∙ ap (λ (ds : List ℕ). ds ++ (n % 256) ∷ [])
    (one_digit (n / 256) (omega arith) (omega arith))

-- a length below 128 is one octet
pub length_short : (n : ℕ) → n < 128 → length_octets n ≡ n ∷ []
unfolding length_octets
length_short n h = rw (lt-ltb n 128 h)

-- a length from 128 to 255 is written behind 81
pub length_81 : (n : ℕ) → 128 ≤ n → n < 256 → length_octets n ≡ 0x81 ∷ n ∷ []
unfolding length_octets
length_81 n h l = rw (le-ltb n 128 h, one_digit n (omega arith) l)

-- a length from 256 to 65535 is written behind 82
pub length_82 : (n : ℕ) → 256 ≤ n → n < 65536 → length_octets n ≡ 0x82 ∷ (n / 256) ∷ (n % 256) ∷ []
unfolding length_octets
length_82 n h l = rw (le-ltb n 128 (omega arith), two_digits n h l)

three_digits : (n : ℕ) → 65536 ≤ n → n < 16777216 → digits_of 256 n ≡ (n / 65536) ∷ (n / 256 % 256) ∷ (n % 256) ∷ []
three_digits n h l =
    let top : n / 256 / 256 ≡ n / 65536 = omega arith in
    digits_of_step 256 n (omega arith) (omega arith) ∙ ap (λ (ds : List ℕ). ds ++ (n % 256) ∷ [])
    (two_digits (n / 256) (omega arith) (omega arith) ∙ ap (λ (k : ℕ). k ∷ (n / 256 % 256) ∷ []) top)

first_two : {a b c d : ℕ} (e : ℕ) → a ≡ c → b ≡ d → a ∷ b ∷ e ∷ [] ≡ c ∷ d ∷ e ∷ []
first_two e p q = cc

four_digits : (n : ℕ) → 16777216 ≤ n → n < 2 ^ 32 → digits_of 256 n ≡ (n / 16777216) ∷ (n / 65536 % 256) ∷ (n / 256 % 256) ∷ (n % 256) ∷ []
four_digits n h l =
    let top : n / 256 / 65536 ≡ n / 16777216 = omega arith in
    let next : n / 256 / 256 % 256 ≡ n / 65536 % 256 = omega arith in
    digits_of_step 256 n (omega arith) (omega arith) ∙ ap (λ (ds : List ℕ). ds ++ (n % 256) ∷ [])
    (three_digits (n / 256) (omega arith) (omega arith) ∙ first_two (n / 256 % 256) top next)

-- a length from 2^16 to 2^24 - 1 is written behind 83
pub length_83 : (n : ℕ) → 65536 ≤ n → n < 16777216 → length_octets n ≡ 0x83 ∷ (n / 65536) ∷ (n / 256 % 256) ∷ (n % 256) ∷ []
unfolding length_octets
length_83 n h l = rw (le-ltb n 128 (omega arith), three_digits n h l)

-- a length from 2^24 to 2^32 - 1 is written behind 84
pub length_84 : (n : ℕ) → 16777216 ≤ n → n < 2 ^ 32 → length_octets n ≡ 0x84 ∷ (n / 16777216) ∷ (n / 65536 % 256) ∷
    (n / 256 % 256) ∷ (n % 256) ∷ []
unfolding length_octets
length_84 n h l = rw (le-ltb n 128 (omega arith), four_digits n h l)
