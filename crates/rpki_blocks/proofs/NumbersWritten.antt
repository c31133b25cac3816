-- The INTEGERs that AS numbers are written as.
use Rattle.std.specs.Int.Digits.{digits_of, number_from_digits}
use Rattle.std.proofs.Common.{◌≡◌, ℕ, zero, suc, ◌/◌, ◌%◌, ◌^◌, ◌<◌, ◌≤◌, List, [], ◌∷◌, ◌++◌, length, lit<, refl, sym, ap, ◌∙◌, arith}
use Rattle.std.proofs.lemmas.Bool.{le-ltb, lt-ltb}
use Rattle.rpki_der.specs.Primitives.{IsInteger, number, unsigned}
use Rattle.rpki_der.specs.Tags.{INTEGER, SEQUENCE}
use Rattle.rpki_der.specs.Values.{AreOctets, enc}
use Rattle.rpki_der.proofs.Digits.{digits_again}
use Rattle.rpki_blocks.specs.Systems.{as_range, as_range_format}
use Rattle.rpki_blocks.proofs.Lengths.{short_value}

-- a shortest content that isn't negative is that of its number
content_is : (d : ℕ) (ds : List ℕ) → d < 128 → AreOctets (d ∷ ds) → IsInteger (d ∷ ds) →
    unsigned (digits_of 256 (number_from_digits 256 (d ∷ ds))) ≡ d ∷ ds
content_is zero [] small octets shortest = refl
content_is zero (e ∷ es) small octets shortest =
    ap unsigned (digits_again e es (omega (arith, shortest.0 refl)) octets.1) ∙ rw (le-ltb e 128 (shortest.0 refl)) refl
content_is (suc d) ds small octets shortest =
    ap unsigned (digits_again (suc d) ds (omega arith) octets) ∙ rw (lt-ltb (suc d) 128 small) refl

-- a number is written as its octets, where these are a shortest content
number_is : (n d : ℕ) (ds : List ℕ) → n ≡ number_from_digits 256 (d ∷ ds) → d < 128 → AreOctets (d ∷ ds) →
    IsInteger (d ∷ ds) → length ds < 127 → INTEGER ∷ suc (length ds) ∷ d ∷ ds ≡ number n
unfolding number
number_is n d ds is small octets shortest short =
    sym (short_value INTEGER (d ∷ ds) (omega arith)) ∙ ap (λ (c : List ℕ). enc INTEGER c)
    (sym (ap (λ (k : ℕ). unsigned (digits_of 256 k)) is ∙ content_is d ds small octets shortest))

-- ---- numbers by their size

-- of one octet
pub number_1 : (n : ℕ) → n < 0x80 → 2 ∷ 1 ∷ (n % 256) ∷ [] ≡ number n
number_1 n h = number_is n (n % 256) [] (omega arith) (omega arith) (omega arith, tt) tt (omega arith)

-- of two octets
pub number_2 : (n : ℕ) → 0x80 ≤ n → n < 0x8000 → 2 ∷ 2 ∷ (n / 256 % 256) ∷ (n % 256) ∷ [] ≡ number n
number_2 n g h = number_is n (n / 256 % 256) ((n % 256) ∷ []) (omega arith) (omega arith)
    (omega arith, (omega arith, tt)) (λ e. omega arith, λ e. omega arith) (omega arith)

-- of three octets
pub number_3 : (n : ℕ) → 0x8000 ≤ n → n < 0x800000 → 2 ∷ 3 ∷ (n / 65536 % 256) ∷ (n / 256 % 256) ∷ (n % 256) ∷ [] ≡ number n
number_3 n g h = number_is n (n / 65536 % 256) ((n / 256 % 256) ∷ (n % 256) ∷ []) (omega arith) (omega arith)
    (omega arith, (omega arith, (omega arith, tt))) (λ e. omega arith, λ e. omega arith) (omega arith)

-- of four octets
pub number_4 : (n : ℕ) → 0x800000 ≤ n → n < 0x80000000 → 2 ∷ 4 ∷ (n / 16777216 % 256) ∷ (n / 65536 % 256) ∷
    (n / 256 % 256) ∷ (n % 256) ∷ [] ≡ number n
number_4 n g h = number_is n (n / 16777216 % 256) ((n / 65536 % 256) ∷ (n / 256 % 256) ∷ (n % 256) ∷ []) (omega arith)
    (omega arith) (omega arith, (omega arith, (omega arith, (omega arith, tt))))
    (λ e. omega arith, λ e. omega arith) (omega arith)

-- of four octets with a 0 before them
pub number_5 : (n : ℕ) → 0x80000000 ≤ n → n < 2 ^ 32 → 2 ∷ 5 ∷ 0 ∷ (n / 16777216 % 256) ∷ (n / 65536 % 256) ∷
    (n / 256 % 256) ∷ (n % 256) ∷ [] ≡ number n
number_5 n g h = number_is n 0 ((n / 16777216 % 256) ∷ (n / 65536 % 256) ∷ (n / 256 % 256) ∷ (n % 256) ∷ [])
    (omega arith) (omega arith) (omega arith, (omega arith, (omega arith, (omega arith, (omega arith, tt)))))
    (λ e. omega arith, λ e. omega arith) (omega arith)

-- a range of two numbers of three octets each
pub range_3 : (m n : ℕ) → 0x8000 ≤ m → m ≤ n → n < 0x800000 → 48 ∷ 10 ∷ 2 ∷ 3 ∷ (m / 65536 % 256) ∷ (m / 256 % 256) ∷
    (m % 256) ∷ 2 ∷ 3 ∷ (n / 65536 % 256) ∷ (n / 256 % 256) ∷ (n % 256) ∷ [] ≡ as_range m n
unfolding as_range_format
range_3 m n least order most =
    let low = number_3 m least (omega arith) in
    let high = number_3 n (omega arith) most in
    let ends : List ℕ = 2 ∷ 3 ∷ (m / 65536 % 256) ∷ (m / 256 % 256) ∷ (m % 256) ∷ 2 ∷ 3 ∷ (n / 65536 % 256) ∷
    (n / 256 % 256) ∷ (n % 256) ∷ [] in
    sym (short_value SEQUENCE ends (lit< tt)) ∙ (λ i. enc SEQUENCE (low i ++ high i))
