-- What is written of octets is octets.
use Rattle.std.specs.Prelude.{nat_lt, nat_le, ◌&&◌, if◌then◌else◌, ◌==◌}
use Rattle.std.specs.List.{AllByRecursion, concat}
use Rattle.std.specs.Int.Digits.{digits_of, AllBelowBase}
use Rattle.std.proofs.Common.{◌≡◌, ℕ, ◌%◌, ◌/◌, ◌^◌, ◌<◌, ◌≤◌, Bool, true, false, List, [], ◌∷◌, ◌++◌, length, refl}
use Rattle.std.proofs.Common.{arith, inl, inr, subst, sym}
use Rattle.std.proofs.lemmas.Bool.{cases_lt, lt-ltb, le-ltb, ltb-true, and_parts}
use Rattle.std.proofs.lemmas.List.{length-append}
use Rattle.std.proofs.lemmas.Int.Digits.{length-digits_of-le, all_below_base_digits_of}
use Rattle.rpki_der.specs.Values.{AreOctets, length_octets, enc, IsEnc}
use Rattle.rpki_der.specs.Times.{Moment, leap_day, days_in_month, IsMoment, two, after_year, time}
use Rattle.rpki_der.specs.Primitives.{unsigned, number, bool_or_false}
use Rattle.rpki_der.specs.Tags.{BOOLEAN, GENERALIZED_TIME, INTEGER, UTC_TIME}
use Rattle.rpki_der.proofs.Octets.{AreOctets-append}
use Rattle.rpki_der.proofs.ValueWritten.{bool_cases, enc_longer}

-- octets where it is short enough to be written
abbrev pub IfShort : List ℕ → Type 0
IfShort b = length b < 2 ^ 32 → AreOctets b

-- whether all numbers are octets
abbrev pub all_octets : List ℕ → Bool
all_octets [] = true
all_octets (x ∷ b) = nat_lt x 256 && all_octets b

-- octets by computation
pub literal : (b : List ℕ) → all_octets b ≡ true → AreOctets b
literal [] h = tt
literal (x ∷ b) h = let r = and_parts _ _ h in (ltb-true x 256 r.0, literal b r.1)

-- what is written one after the other, if short, consists of octets
pub ok_append : (a b : List ℕ) → IfShort a → IfShort b → IfShort (a ++ b)
ok_append a b g h l = let whole = length-append a b in AreOctets-append a b (g (omega arith)) (h (omega arith))

-- what is written in pieces, if short, consists of octets
pub ok_concat : (ps : List (List ℕ)) → AllByRecursion IfShort ps → IfShort (concat ps)
ok_concat [] h l = tt
ok_concat (p ∷ ps) h l = ok_append p (concat ps) h.0 (ok_concat ps h.1) l

below : (ds : List ℕ) → AllBelowBase 256 ds → AreOctets ds
below ds h = h

-- the octets of a length are octets
pub length_octets_are : (n : ℕ) → n < 2 ^ 32 → AreOctets (length_octets n)
unfolding length_octets
length_octets_are n h =
    elim (cases_lt n 128) [
      | inl low ↦ rw (lt-ltb n 128 low) (omega arith, tt)
      | inr high ↦ rw (le-ltb n 128 high) (
        omega (arith, length-digits_of-le 256 4 n (omega arith) (omega arith)),
        below _ (all_below_base_digits_of 256 n (omega arith)),
      )
    ]

-- a value of octets consists of octets
pub octets_enc : (t : ℕ) (c : List ℕ) → t < 256 → length c < 2 ^ 32 → AreOctets c → AreOctets (enc t c)
unfolding enc
octets_enc t c tag l h = (tag, AreOctets-append (length_octets (length c)) c (length_octets_are (length c) l) h)

-- a value, if short, consists of octets where its content does
pub ok_enc : (t : ℕ) (c : List ℕ) → t < 256 → IfShort c → IfShort (enc t c)
ok_enc t c tag h l = let small : length c < 2 ^ 32 = omega (arith, enc_longer t c) in octets_enc t c tag small (h small)

-- a value's octets
pub value_octets : {t : ℕ} {c b : List ℕ} → IsEnc t c b → AreOctets b
value_octets {t} {c} h = subst AreOctets (sym h.is) (octets_enc t c h.octet h.short h.octets)

ok_unsigned : (ds : List ℕ) → AreOctets ds → AreOctets (unsigned ds)
ok_unsigned [] h = (omega arith, tt)
ok_unsigned (d ∷ ds) h = elim (bool_cases (nat_lt d 128)) [ inl t ↦ rw t h | inr f ↦ rw f (omega arith, h) ]

-- what is written of a number, if short, consists of octets
pub ok_number : (n : ℕ) → IfShort (number n)
unfolding number
ok_number n = ok_enc INTEGER _ (omega arith) (λ l. ok_unsigned (digits_of 256 n) (below _ (all_below_base_digits_of 256 n (omega arith))))

-- what is written of a flag consists of octets
pub ok_flag : (v : Bool) → AreOctets (bool_or_false v)
ok_flag true = literal (BOOLEAN ∷ 1 ∷ 255 ∷ []) refl
ok_flag false = tt

-- ---- times

choose : (b : Bool) (x y k : ℕ) → x ≤ k → y ≤ k → (if b then x else y) ≤ k
choose true x y k g h = g
choose false x y k g h = h

leap : (year : ℕ) → leap_day year ≤ 1
leap year = choose (year % 400 == 0) _ _ 1 (omega arith)
    (choose (year % 100 == 0) _ _ 1 (omega arith) (choose (year % 4 == 0) _ _ 1 (omega arith) (omega arith)))

-- a month has at most 31 days
pub days : (year month : ℕ) → days_in_month year month ≤ 31
days year month =
    choose (month == 2) _ _ 31 (omega (arith, leap year))
    (choose (month == 4) _ _ 31 (omega arith)
    (choose (month == 6) _ _ 31 (omega arith)
    (choose (month == 9) _ _ 31 (omega arith) (choose (month == 11) _ _ 31 (omega arith) (omega arith)))))

two_octets : (n : ℕ) → n < 100 → AreOctets (two n)
two_octets n h = (omega arith, (omega arith, tt))

after_octets : (m : Moment) → IsMoment m → AreOctets (after_year m)
after_octets m e =
    let s : AreOctets (two m.second ++ 90 ∷ []) = AreOctets-append (two m.second) (90 ∷ [])
    (two_octets m.second (omega (arith, e.second))) (omega arith, tt) in
    let n : AreOctets (two m.minute ++ (two m.second ++ 90 ∷ [])) =
    AreOctets-append (two m.minute) (two m.second ++ 90 ∷ []) (two_octets m.minute (omega (arith, e.minute)))
    s in
    let h : AreOctets (two m.hour ++ (two m.minute ++ (two m.second ++ 90 ∷ []))) =
    AreOctets-append (two m.hour) (two m.minute ++ (two m.second ++ 90 ∷ []))
    (two_octets m.hour (omega (arith, e.hour))) n in
    let d : AreOctets (two m.day ++ (two m.hour ++ (two m.minute ++ (two m.second ++ 90 ∷ [])))) =
    AreOctets-append (two m.day) (two m.hour ++ (two m.minute ++ (two m.second ++ 90 ∷ [])))
    (two_octets m.day (omega (arith, e.day.1, days m.year m.month))) h in
    AreOctets-append (two m.month) (two m.day ++ (two m.hour ++ (two m.minute ++ (two m.second ++ 90 ∷ []))))
    (two_octets m.month (omega (arith, e.month.1))) d

-- what is written of a moment, if short, consists of octets
pub ok_time : (m : Moment) → IsMoment m → IfShort (time m)
unfolding time
ok_time m e =
    let short = AreOctets-append (two (m.year % 100)) (after_year m) (two_octets (m.year % 100) (omega arith)) (after_octets m e) in
    elim (bool_cases (nat_le 1950 m.year && nat_lt m.year 2050)) [
      | inl t ↦ rw t (ok_enc UTC_TIME _ (omega arith) (λ l. short))
      | inr f ↦ rw f (ok_enc GENERALIZED_TIME _ (omega arith)
          (λ l. AreOctets-append (two (m.year / 100)) (two (m.year % 100) ++ after_year m)
          (two_octets (m.year / 100) (omega (arith, e.year))) short))
    ]
