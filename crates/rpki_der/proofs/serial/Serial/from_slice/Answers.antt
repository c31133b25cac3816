use Rattle.std.proofs.Common.{◌≡◌, ℕ, ◌+◌, ◌-◌, ◌^◌, ◌<◌, ◌≤◌, List, [], ◌++◌, length, take, drop, replicate, refl}
use Rattle.std.proofs.Common.{sym, ap, ◌∙◌, append-nil, take_all, arith}
use borrow.Rule.Slice.PartMut.{put_mid}
use Rattle.std.proofs.lemmas.List.{drop_all}
use Rattle.std.proofs.lemmas.Slice.{put_mid-paste}
use Rattle.std.specs.Int.Digits.{digits_of, number_from_digits}
use Rattle.std.proofs.lemmas.Int.Digits.{length-digits_of-le, number_digits_of}
use Rattle.rpki_der.proofs.HighFirst.{below_long, zeros_first}
use Rattle.rpki_der.proofs.serial.Serial.from_slice.Goals as goal

pub returns-then-digits-gt20-clause-some : goal.returns-then-digits-gt20-clause-some
returns-then-digits-gt20-clause-some c =
    let n = number_from_digits 256 c.args.octets.now in
    let long : length (digits_of 256 n) ≡ length c.significant-digits.result.now = ap length (sym c.significant-digits.ensures.digits) in
    (λ e. absurd cc, λ lt. absurd (omega (arith, long, c.if-digits-gt20.true, length-digits_of-le 256 20 n (omega arith) lt)))

pub returns-clause-some : goal.returns-clause-some
returns-clause-some c =
    let n = number_from_digits 256 c.args.octets.now in
    let ds = digits_of 256 n in
    let long : length ds ≡ length c.significant-digits.result.now = ap length (sym c.significant-digits.ensures.digits) in
    let below : n < 2 ^ 160 = below_long n (omega (arith, long, c.if-digits-gt20.false)) in
    (λ _. below, λ _. refl)

-- octets at the end of zeros have their number
padded : (copy digits : List ℕ) → copy ≡ digits → length digits ≤ 20 →
    number_from_digits 256 (put_mid (20 - length digits) (20 - (20 - length digits)) (replicate 20 0) copy) ≡
    number_from_digits 256 digits
padded copy digits same short =
    let count = length digits in
    let front = 20 - count in
    let zeros : List ℕ = replicate 20 0 in
    let pasted : put_mid front (20 - front) zeros copy ≡ (take front zeros ++ take count digits) ++
    drop (front + count) zeros = put_mid-paste front (20 - front) zeros copy digits count same (omega arith)
    refl in
    let nothing : drop (front + count) zeros ≡ [] = drop_all (front + count) zeros (omega arith) in
    let all : take count digits ≡ digits = take_all count digits (omega arith) in
    let joined : (take front zeros ++ take count digits) ++ drop (front + count) zeros ≡ take front zeros ++ digits =
    rw (nothing, all) (append-nil (take front zeros ++ digits)) in
    ap (number_from_digits 256) (pasted ∙ joined) ∙ zeros_first 20 front digits

pub returns-clause-value : goal.returns-clause-value
returns-clause-value c =
    let n = number_from_digits 256 c.args.octets.now in
    let digits = c.significant-digits.result.now in
    let whole : number_from_digits 256 digits ≡ n = ap (number_from_digits 256) c.significant-digits.ensures.digits ∙
    number_digits_of 256 n (omega arith) in
    c.of_octets.ensures ∙ padded c.copy_from_slice.new.self digits c.copy_from_slice.ensures.after
    (omega (arith, c.if-digits-gt20.false)) ∙ whole
