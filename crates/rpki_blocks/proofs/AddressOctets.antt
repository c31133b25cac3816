-- The first octets of an address.
use Rattle.std.proofs.Common.{◌≡◌, ℕ, zero, suc, ◌+◌, ◌-◌, ◌*◌, ◌/◌, ◌%◌, ◌^◌, ◌<◌, ◌≤◌, List, [], ◌∷◌, ◌++◌, take}
use Rattle.std.proofs.Common.{length, subst, refl, sym, ap, ◌∙◌, arith}
use Rattle.std.specs.Int.{byte_at, bytes_high_first}
use Rattle.std.proofs.Math.Nat.{div-div-eq-div-mul, mul_assoc, pow-suc}
use Rattle.std.specs.Int.Digits.{number_from_digits}
use Rattle.std.proofs.lemmas.Int.Digits.{number_push}
use Rattle.std.proofs.lemmas.List.{length-append}
use Rattle.std.proofs.lemmas.Nat.{pow-add, shl-shr, pow_pos, div_below, shl_below}
use Rattle.rpki_der.specs.Values.{AreOctets}
use Rattle.rpki_der.proofs.Octets.{AreOctets-append}
use Rattle.rpki_blocks.specs.AddressBits.{front, octets_of}
use Rattle.rpki_der.proofs.HighFirst.{byte_is}
use Rattle.rpki_blocks.proofs.FirstBits.{octets_bits}

-- the octet at a place, without the octets below it
byte_above : (i d n : ℕ) → byte_at (i + d) n ≡ byte_at i (n / 256 ^ d)
byte_above i d n =
    byte_is (i + d) n ∙ ap (λ (k : ℕ). n / k % 256) (powers i d) ∙
    ap (λ (k : ℕ). k % 256) (sym (div-div-eq-div-mul n (256 ^ d) (256 ^ i))) ∙ sym (byte_is i (n / 256 ^ d))
  where
    powers : (i d : ℕ) → 256 ^ (i + d) ≡ 256 ^ d * 256 ^ i
    powers i d = let e : i + d ≡ d + i = omega arith in ap (λ (k : ℕ). 256 ^ k) e ∙ pow-add 256 d i

bytes_last : (k n : ℕ) → bytes_high_first (suc k) n ≡ bytes_high_first k (n / 256) ++ (n % 256) ∷ []
bytes_last zero n = refl
bytes_last (suc k) n =
    let e : suc k ≡ k + 1 = omega arith in
    let top : byte_at (suc k) n ≡ byte_at k (n / 256) = ap (λ (i : ℕ). byte_at i n) e ∙ byte_above k 1 n in
    ap (λ (b : ℕ). b ∷ bytes_high_first (suc k) n) top ∙ ap (λ (bs : List ℕ). byte_at k (n / 256) ∷ bs) (bytes_last k n)

-- octets of a number are its bytes with the highest first
pub octets_are_bytes : (k n : ℕ) → octets_of k n ≡ bytes_high_first k n
octets_are_bytes zero n = refl
octets_are_bytes (suc k) n = ap (λ (bs : List ℕ). bs ++ (n % 256) ∷ []) (octets_are_bytes k (n / 256)) ∙ sym (bytes_last k n)

first_bytes : (c d n : ℕ) → take c (bytes_high_first (c + d) n) ≡ bytes_high_first c (n / 256 ^ d)
first_bytes zero d n = refl
first_bytes (suc c) d n =
    let e : suc c + d ≡ suc (c + d) = omega arith in
    ap (λ (k : ℕ). take (suc c) (bytes_high_first k n)) e ∙ ap (λ (b : ℕ). b ∷ take c (bytes_high_first (c + d) n))
    (byte_above c d n) ∙ ap (λ (bs : List ℕ). byte_at c (n / 256 ^ d) ∷ bs) (first_bytes c d n)

-- the first octets of a number whose last bits are 0, or were made so
first_octets : (width count last unused a : ℕ) → count ≤ width → last ≡ unused + 8 * (width - count) →
    take count (bytes_high_first width (a * 2 ^ last)) ≡ octets_of count (a * 2 ^ unused)
first_octets width count last unused a few split =
    let whole : width ≡ count + (width - count) = omega arith in
    let powers : 2 ^ last ≡ 2 ^ unused * 2 ^ (8 * (width - count)) = ap (λ (k : ℕ). 2 ^ k) split ∙ pow-add 2 unused (8 * (width - count)) in
    let moved : a * 2 ^ last ≡ a * 2 ^ unused * 2 ^ (8 * (width - count)) = ap (λ (k : ℕ). a * k) powers ∙
    sym (mul_assoc a (2 ^ unused) (2 ^ (8 * (width - count)))) in
    let down : a * 2 ^ last / 256 ^ (width - count) ≡ a * 2 ^ unused =
    ap (λ (k : ℕ). a * 2 ^ last / k) (octets_bits (width - count)) ∙
    ap (λ (k : ℕ). k / 2 ^ (8 * (width - count))) moved ∙ shl-shr (a * 2 ^ unused) (8 * (width - count)) in
    ap (λ (k : ℕ). take count (bytes_high_first k (a * 2 ^ last))) whole ∙ first_bytes count (width - count)
    (a * 2 ^ last) ∙ ap (bytes_high_first count) down ∙ sym (octets_are_bytes count (a * 2 ^ unused))

-- ---- the number of the octets

-- a number in so many octets has so many
pub length_octets_of : (count n : ℕ) → length (octets_of count n) ≡ count
length_octets_of zero n = refl
length_octets_of (suc count) n = omega (arith, length-append (octets_of count (n / 256)) ((n % 256) ∷ []), length_octets_of count (n / 256))

-- they are octets
pub octets_of_are : (count n : ℕ) → AreOctets (octets_of count n)
octets_of_are zero n = tt
octets_of_are (suc count) n = AreOctets-append (octets_of count (n / 256)) ((n % 256) ∷ [])
    (octets_of_are count (n / 256)) (omega arith, tt)

-- the octets of a number stand for it
pub number_octets_of : (count n : ℕ) → n < 2 ^ (8 * count) → number_from_digits 256 (octets_of count n) ≡ n
number_octets_of zero n h = let e : n ≡ 0 = omega arith in sym e
number_octets_of (suc count) n h =
    let small : n / 256 < 2 ^ (8 * count) =
    omega (
      arith,
      sym (octets_bits (suc count)) ∙ pow-suc 256 count ∙
          ap (λ (k : ℕ). k * 256) (octets_bits count),
    ) in
    number_push 256 (octets_of count (n / 256)) (n % 256) ∙ ap (λ (k : ℕ). k * 256 + n % 256)
    (number_octets_of count (n / 256) small) ∙ omega arith

-- an address without its last bits is small
pub front_small : (last address : ℕ) → last ≤ 128 → address < 2 ^ 128 → address / 2 ^ last < 2 ^ (128 - last)
front_small last address most small =
    let split : 2 ^ 128 ≡ 2 ^ (128 - last) * 2 ^ last = let e : 128 ≡ 128 - last + last = omega arith in
    ap (λ (k : ℕ). 2 ^ k) e ∙ pow-add 2 (128 - last) last in
    div_below address (2 ^ last) (2 ^ (128 - last)) (pow_pos last) (subst (λ (k : ℕ). address < k) split small)

-- the remaining bits fill these octets
pub cut_small : (last address : ℕ) → last ≤ 128 → address < 2 ^ 128 →
    address / 2 ^ last * 2 ^ (8 * ((128 - last + 7) / 8) - (128 - last)) < 2 ^ (8 * ((128 - last + 7) / 8))
cut_small last address most small =
    let up = shl_below (address / 2 ^ last) (128 - last) (8 * ((128 - last + 7) / 8) - (128 - last))
    (front_small last address most small) in
    let bits : 128 - last + (8 * ((128 - last + 7) / 8) - (128 - last)) ≡ 8 * ((128 - last + 7) / 8) = omega arith in
    subst (λ (k : ℕ). address / 2 ^ last * 2 ^ (8 * ((128 - last + 7) / 8) - (128 - last)) < 2 ^ k) bits up

-- the first octets of an address are its front with unused bits
pub cut_address : (last address : ℕ) → last ≤ 128 →
    take ((128 - last + 7) / 8) (bytes_high_first 16 (address / 2 ^ last * 2 ^ last)) ≡ (front last address).1
cut_address last address most = first_octets 16 ((128 - last + 7) / 8) last
    (8 * ((128 - last + 7) / 8) - (128 - last)) (address / 2 ^ last) (omega arith) (omega arith)

-- where 32 bits or fewer stay, so are the first of the four upper octets
pub cut_upper : (last address : ℕ) → 96 ≤ last → last ≤ 128 →
    take ((128 - last + 7) / 8) (bytes_high_first 4 (address / 2 ^ 96 / 2 ^ (last - 96) * 2 ^ (last - 96))) ≡
    (front last address).1
cut_upper last address least most =
    let split : 2 ^ 96 * 2 ^ (last - 96) ≡ 2 ^ last = sym (pow-add 2 96 (last - 96)) ∙
    ap (λ (k : ℕ). 2 ^ k) (let e : 96 + (last - 96) ≡ last = omega arith in e) in
    let same : address / 2 ^ 96 / 2 ^ (last - 96) ≡ address / 2 ^ last =
    div-div-eq-div-mul address (2 ^ 96) (2 ^ (last - 96)) ∙ ap (λ (k : ℕ). address / k) split in
    ap (λ (a : ℕ). take ((128 - last + 7) / 8) (bytes_high_first 4 (a * 2 ^ (last - 96)))) same ∙
    first_octets 4 ((128 - last + 7) / 8) (last - 96) (8 * ((128 - last + 7) / 8) - (128 - last))
    (address / 2 ^ last) (omega arith) (omega arith)
