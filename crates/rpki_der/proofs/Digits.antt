-- The digits of a number are the only ones without a zero in front.
use Rattle.std.specs.Int.Digits.{digits_of, number_from_digits, number_from_digits_after}
use Rattle.std.proofs.Common.{◌≡◌, ℕ, ◌+◌, ◌*◌, ◌/◌, ◌%◌, ◌<◌, List, [], ◌∷◌, ◌++◌, refl, sym, ap, ◌∙◌, append_assoc, arith}
use Rattle.std.proofs.lemmas.List.{append-nil}
use Rattle.std.proofs.lemmas.Int.Digits.{digits_of_step}
use Rattle.rpki_der.specs.Values.{AreOctets}
use Rattle.rpki_der.proofs.Lengths.{one_digit}

digits_after : (n : ℕ) (ds : List ℕ) → 0 < n → AreOctets ds → digits_of 256 (number_from_digits_after 256 n ds) ≡ digits_of 256 n ++ ds
digits_after n [] some low = sym (append-nil (digits_of 256 n))
digits_after n (d ∷ ds) some low =
    let small : d < 256 = low.0 in
    let front : (n * 256 + d) / 256 ≡ n = omega arith in
    let last : (n * 256 + d) % 256 ≡ d = omega arith in
    let step : digits_of 256 (n * 256 + d) ≡ digits_of 256 n ++ d ∷ [] =
    digits_of_step 256 (n * 256 + d) (omega arith) (omega arith) ∙ rw (front, last) refl in
    digits_after (n * 256 + d) ds (omega arith) low.1 ∙ ap (λ (x : List ℕ). x ++ ds) step ∙ append_assoc (digits_of 256 n) (d ∷ []) ds

-- octets that don't begin with 0 are the digits of their number
pub digits_again : (d : ℕ) (ds : List ℕ) → 0 < d → AreOctets (d ∷ ds) → digits_of 256 (number_from_digits 256 (d ∷ ds)) ≡ d ∷ ds
digits_again d ds some low =
    let same : 0 * 256 + d ≡ d = omega arith in
    let small : d < 256 = low.0 in
    ap (λ (n : ℕ). digits_of 256 (number_from_digits_after 256 n ds)) same ∙ digits_after d ds some low.1 ∙
    ap (λ (x : List ℕ). x ++ ds) (one_digit d some small)
