-- The number of a number's bytes, the highest first.
use Rattle.std.specs.Int.{byte_at, byte_worth, bytes_high_first, sum_through}
use Rattle.std.specs.Int.Digits.{digits_of, number_from_digits, number_from_digits_after}
use Rattle.std.proofs.Common.{◌≡◌, ℕ, zero, suc, ◌+◌, ◌-◌, ◌*◌, ◌/◌, ◌%◌, ◌^◌, ◌<◌, ◌≤◌, List, [], ◌∷◌, ◌++◌, length}
use Rattle.std.proofs.Common.{get_or, take, replicate, slice_index, refl, sym, ap, ◌∙◌, mul_comm, mul_assoc, arith}
use Rattle.std.proofs.lemmas.Int.Digits.{number_more, number_lt, all_below_base_digits_of, number_digits_of}
use Rattle.std.proofs.lemmas.List.{take_all}
use Rattle.std.proofs.Math.Arith.{mod-mul}
use Rattle.std.proofs.Math.Nat.{pow-suc, pow-le-pow_right, add-mul}

-- the octet at place k of a number is a digit of base 256
pub byte_is : (k n : ℕ) → byte_at k n ≡ n / 256 ^ k % 256
byte_is zero n = omega arith
byte_is (suc k) n = refl

positive : (k : ℕ) → 0 < 256 ^ k
positive zero = omega arith
positive (suc k) = omega (arith, positive k, pow-suc 256 k)

-- the number of the digits of m with the k octets of n behind them
pub number_high_first : (k m n : ℕ) → number_from_digits_after 256 m (bytes_high_first k n) ≡ m * 256 ^ k + n % 256 ^ k
number_high_first zero m n = omega arith
number_high_first (suc k) m n =
    let power = 256 ^ k in
    let next : 256 ^ suc k ≡ 256 * power = pow-suc 256 k ∙ mul_comm power 256 in
    let split : n % (256 * power) ≡ (n / power % 256) * power + n % power = mod-mul n (omega arith) (positive k) in
    let rest : (m * 256 + byte_at k n) * power ≡ m * (256 * power) + (n / power % 256) * power =
    ap (λ (b : ℕ). (m * 256 + b) * power) (byte_is k n) ∙ add-mul (m * 256) (n / power % 256) power ∙
    ap (λ (x : ℕ). x + (n / power % 256) * power) (mul_assoc m 256 power) in
    number_high_first k (m * 256 + byte_at k n) n ∙ rw next (omega (arith, rest, split))

-- what an octet is worth at a place
worth_is : (k b : ℕ) → byte_worth k b ≡ b * 256 ^ k
worth_is zero b = omega arith
worth_is (suc k) b = refl

-- the number of a front and one octet more, at a place
one_more : (front b power : ℕ) → (front * 256 + b) * power ≡ front * (256 * power) + b * power
one_more front b power = add-mul (front * 256) b power ∙ ap (λ (x : ℕ). x + b * power) (mul_assoc front 256 power)

-- what the first octets of k + 1 are worth is the number that they write, at its place
front_worth : (k j : ℕ) (ds : List ℕ) → j ≤ k → k < length ds →
    sum_through (λ i. byte_worth (k - i) (slice_index ds i)) j ≡ number_from_digits 256 (take (j + 1) ds) * 256 ^
    (k - j)
front_worth k zero ds a b =
    let first : number_from_digits 256 (take (0 + 1) ds) ≡ get_or ds 0 0 = omega (arith, number_more 256 ds 0 (omega arith)) in
    worth_is (k - 0) (get_or ds 0 0) ∙ ap (λ (n : ℕ). n * 256 ^ (k - 0)) (sym first)
front_worth k (suc j) ds a b =
    let power = 256 ^ (k - suc j) in
    let octet = get_or ds (suc j) 0 in
    let place : k - j ≡ suc (k - suc j) = omega arith in
    let above : 256 ^ (k - j) ≡ 256 * power = ap (λ (n : ℕ). 256 ^ n) place ∙ pow-suc 256 (k - suc j) ∙ mul_comm power 256 in
    let count : suc j ≡ j + 1 = omega arith in
    let front = number_from_digits 256 (take (j + 1) ds) in
    let more : number_from_digits 256 (take (suc j + 1) ds) ≡ front * 256 + octet =
    number_more 256 ds (suc j) (omega arith) ∙ ap (λ (n : ℕ). number_from_digits 256 (take n ds) * 256 + octet)
    count in
    ap (λ (x : ℕ). x + byte_worth (k - suc j) octet) (front_worth k j ds (omega arith) b ∙ ap (λ (p : ℕ). front * p) above)
    ∙ ap (λ (x : ℕ). front * (256 * power) + x) (worth_is (k - suc j) octet)
    ∙ sym (one_more front octet power)
    ∙ ap (λ (n : ℕ). n * power) (sym more)

-- the number of k + 1 octets, the highest first
pub bytes_number : (k : ℕ) (ds : List ℕ) → length ds ≡ k + 1 →
    sum_through (λ i. byte_worth (k - i) (slice_index ds i)) k ≡ number_from_digits 256 ds
bytes_number k ds long =
    let none : k - k ≡ 0 = omega arith in
    let all : take (k + 1) ds ≡ ds = take_all (k + 1) ds (omega arith) in
    front_worth k k ds (omega arith) (omega arith) ∙ rw (none, all) (omega arith)

-- octets behind others count on from their number
pub number_behind : (n : ℕ) (ds : List ℕ) → number_from_digits_after 256 n ds ≡ n * 256 ^ length ds + number_from_digits 256 ds
number_behind n [] = omega arith
number_behind n (d ∷ ds) =
    let zero_first : number_from_digits_after 256 (0 * 256 + d) ds ≡ (0 * 256 + d) * 256 ^ length ds +
    number_from_digits 256 ds = number_behind (0 * 256 + d) ds in
    let power : 256 ^ suc (length ds) ≡ 256 * 256 ^ length ds = pow-suc 256 (length ds) ∙ mul_comm (256 ^ length ds) 256 in
    let whole = one_more n d (256 ^ length ds) in
    let octet = one_more 0 d (256 ^ length ds) in
    number_behind (n * 256 + d) ds ∙ rw power (omega (arith, whole, octet, zero_first))

-- zeros in front of octets don't change their number
pub zeros_first : (n k : ℕ) (ds : List ℕ) → number_from_digits 256 (take k (replicate n 0) ++ ds) ≡ number_from_digits 256 ds
zeros_first n zero ds = refl
zeros_first zero (suc k) ds = refl
zeros_first (suc n) (suc k) ds = zeros_first n k ds

-- a number of at most 20 octets is below 2^160
pub below_long : (n : ℕ) → length (digits_of 256 n) ≤ 20 → n < 2 ^ 160
below_long n short =
    let ds = digits_of 256 n in
    let below : number_from_digits 256 ds < 256 ^ length ds = number_lt 256 ds (all_below_base_digits_of 256 n (omega arith)) in
    let grows : 256 ^ length ds ≤ 256 ^ 20 = pow-le-pow_right (omega arith) short in
    omega (arith, number_digits_of 256 n (omega arith), below, grows)
