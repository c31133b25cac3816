-- Moments by the digits of their texts.
use Rattle.std.specs.Prelude.{Option, Some, None, IfSome, IfNone, get_or}
use Rattle.std.proofs.Common.{◌≡◌, ℕ, zero, suc, ◌+◌, List, [], ◌∷◌, ◌++◌, take, drop, length, refl, sym, ap, ◌∙◌, arith}
use Rattle.std.proofs.Math.Seq.{drop-cons, drop-length}
use Rattle.rpki_der.specs.Texts.{time_text}
use Rattle.rpki_der.specs.Times.{Moment, IsMoment, fourteen_digits}
use Rattle.rpki_text.specs.MomentTexts.{date_digits, all_digits, IsDateText, HasMarks}

-- ---- the texts and their digits

-- a date at midnight
pub date_from : (t : Moment) (text : List ℕ) → IsDateText t text → date_digits text ≡ fourteen_digits t
date_from t text d = rw (d.date, d.hour, d.minute, d.second) refl

-- a date and a time of day
pub all_from : (t : Moment) (text : List ℕ) → text ≡ time_text t → all_digits text ≡ fourteen_digits t
all_from t text e = rw e refl

-- the elements from one place on
abbrev picks : List ℕ → ℕ → ℕ → List ℕ
picks xs k zero = []
picks xs k (suc n) = get_or xs k 0 ∷ picks xs (suc k) n

-- a list is its elements
all_picks : (xs : List ℕ) (n k : ℕ) → length xs ≡ k + n → drop k xs ≡ picks xs k n
all_picks xs zero k e = ap (λ (n : ℕ). drop n xs) (omega (arith, e)) ∙ drop-length xs
all_picks xs (suc n) k e = drop-cons xs k 0 (omega (arith, e)) ∙ ap (λ (l : List ℕ). get_or xs k 0 ∷ l)
    (all_picks xs n (suc k) (omega (arith, e)))

-- digits with the marks between them
abbrev marked : List ℕ → List ℕ
marked ds =
    take 4 ds ++ 45 ∷ take 2 (drop 4 ds) ++ 45 ∷ take 2 (drop 6 ds) ++ 84 ∷ take 2 (drop 8 ds) ++ 58 ∷
    take 2 (drop 10 ds) ++ 58 ∷ take 2 (drop 12 ds) ++ 90 ∷ []

-- a text with the marks is its digits with the marks
all_to : (t : Moment) (text : List ℕ) → HasMarks text → all_digits text ≡ fourteen_digits t → text ≡ time_text t
all_to t text has e =
    let is : text ≡ marked (all_digits text) =
    all_picks text 20 0 has.size ∙ rw (has.year, has.month, has.day, has.hour, has.minute, has.second) refl in
    is ∙ ap marked e

-- ---- answers, and what follows from them

pub no_date : {X : Type 0} (o : Option X) (text digits : List ℕ) → digits ≡ date_digits text
    → IfNone o ((t : Moment) → IsMoment t → digits ≡ fourteen_digits t → ⊥) → IfNone o ((t : Moment) → IsMoment t → IsDateText t text → ⊥)
no_date (Some x) text digits e h = h
no_date None text digits e h = λ t exists d. h t exists (e ∙ date_from t text d)

pub no_clock : {X : Type 0} (o : Option X) (text digits : List ℕ) → digits ≡ all_digits text
    → IfNone o ((t : Moment) → IsMoment t → digits ≡ fourteen_digits t → ⊥) → IfNone o ((t : Moment) → IsMoment t → text ≡ time_text t → ⊥)
no_clock (Some x) text digits e h = h
no_clock None text digits e h = λ t exists d. h t exists (e ∙ all_from t text d)

pub a_clock : (o : Option Moment) (text digits : List ℕ) → digits ≡ all_digits text → HasMarks text
    → IfSome o (λ t. IsMoment t × (digits ≡ fourteen_digits t)) → IfSome o (λ t. IsMoment t × (text ≡ time_text t))
a_clock (Some t) text digits e has h = (h.0, all_to t text has (sym e ∙ h.1))
a_clock None text digits e has h = h
