-- The numbers of a time are one moment's.
use Rattle.std.specs.Prelude.{IfNone}
use Rattle.std.proofs.Common.{◌≡◌, ◌<◌, ℕ, ◌+◌, ◌%◌, ◌/◌, List, ◌∷◌, ◌++◌, Option, Some, None, arith, inl, inr, subst, sym, ◌∙◌}
use Rattle.rpki_der.specs.Encoding.{Begins, Means}
use Rattle.rpki_der.specs.Tags.{GENERALIZED_TIME, UTC_TIME}
use Rattle.rpki_der.specs.Times.{Moment, after_year, two, IsGeneralizedTime, IsTime}
use Rattle.rpki_der.specs.Values.{IsEnc}
use Rattle.rpki_der.proofs.Formats.{IsFormat, of_enc, one_meant, same_enc, unambiguous}
use Rattle.rpki_der.proofs.Moments.{time_format}
use Rattle.rpki_der.proofs.RoundTrips.{begins_one}
use Rattle.rpki_files.specs.Flaws.{HasTwoDigits, IsFirstTrue, IsOut, IsSecondTimeFlaw, HasNumbers, IsTimeFlaw}
use Rattle.rpki_files.specs.declared.flaws.TimeFlaw.{TimeFlaw}
use Rattle.rpki_files.specs.declared.flaws.TimeFlaw.TheVariants as time
use Rattle.rpki_files.proofs.FirstTrue.{first_so}
use Rattle.rpki_files.proofs.FlawReads.{first_octet, one_content}

-- two digits are those of one number
one_pair : (m n : ℕ) → 48 + m / 10 ≡ 48 + n / 10 → 48 + m % 10 ≡ 48 + n % 10 → m ≡ n
one_pair m n tens ones = omega arith

-- MMDDhhmmssZ behind a year is that of one moment
one_behind : (m n : Moment) → m.year ≡ n.year → after_year m ≡ after_year n → m ≡ n
one_behind m n year e =
    let month : m.month ≡ n.month = one_pair m.month n.month (cc) (cc) in
    let day : m.day ≡ n.day = one_pair m.day n.day (cc) (cc) in
    let hour : m.hour ≡ n.hour = one_pair m.hour n.hour (cc) (cc) in
    let minute : m.minute ≡ n.minute = one_pair m.minute n.minute (cc) (cc) in
    let second : m.second ≡ n.second = one_pair m.second n.second (cc) (cc) in
    λ i. record { year = year i; month = month i; day = day i; hour = hour i; minute = minute i; second = second i }

one_numbered : (m n : Moment) (b : List ℕ) → HasNumbers m b → HasNumbers n b → m ≡ n
one_numbered m n b p q =
    elim p.encoded [
      | inl g ↦ elim q.encoded [
        | inl h ↦
            let text = (same_enc g.2 h.2).1 in
            let last : m.year % 100 ≡ n.year % 100 = one_pair (m.year % 100) (n.year % 100) (cc) (cc) in
            let behind : after_year m ≡ after_year n = cc in
            one_behind m n (omega (arith, last, g.0, g.1, h.0, h.1)) behind
        | inr h ↦ absurd (omega (arith, (same_enc g.2 h).0))
      ]
      | inr g ↦ elim q.encoded [
        | inl h ↦ absurd (omega (arith, (same_enc g h.2).0))
        | inr h ↦
            let text = (same_enc g h).1 in
            let century : m.year / 100 ≡ n.year / 100 = one_pair (m.year / 100) (n.year / 100) (cc) (cc) in
            let last : m.year % 100 ≡ n.year % 100 = one_pair (m.year % 100) (n.year % 100) (cc) (cc) in
            let behind : after_year m ≡ after_year n = cc in
            one_behind m n (omega (arith, century, last)) behind
      ]
    ]

numbers_format : IsFormat HasNumbers
numbers_format = record { value = λ m b s. elim s.encoded [ inl g ↦ of_enc g.2 | inr g ↦ of_enc g ]; one = one_numbered }

-- ---- flaws of the numbers of a time

module _ (octets : List ℕ) (m : Moment) (means : Means HasNumbers m octets) where
  out_told : (f : TimeFlaw) → IsOut m f → IsTimeFlaw octets f
  out_told time.Form out = absurd out
  out_told time.Month out = (m, means, out)
  out_told time.Day out = (m, means, out)
  out_told time.Hour out = (m, means, out)
  out_told time.Minute out = (m, means, out)
  out_told time.Second out = (m, means, out)

  same : (n : Moment) → Means HasNumbers n octets → n ≡ m
  same n other = one_meant HasNumbers (unambiguous HasNumbers numbers_format) n m octets other means

  told_out : (f : TimeFlaw) → IsTimeFlaw octets f → IsOut m f
  told_out time.Form none = none m means
  told_out time.Month t = subst (λ (n : Moment). IsOut n time.Month) (same t.0 t.1) t.2
  told_out time.Day t = subst (λ (n : Moment). IsOut n time.Day) (same t.0 t.1) t.2
  told_out time.Hour t = subst (λ (n : Moment). IsOut n time.Hour) (same t.0 t.1) t.2
  told_out time.Minute t = subst (λ (n : Moment). IsOut n time.Minute) (same t.0 t.1) t.2
  told_out time.Second t = subst (λ (n : Moment). IsOut n time.Second) (same t.0 t.1) t.2

  -- the first of them is the first of the time
  pub first_out : (flaws : List TimeFlaw) (o : Option TimeFlaw) → IsFirstTrue (IsOut m) flaws o → IsFirstTrue (IsTimeFlaw octets) flaws o
  first_out flaws o is = first_so (IsOut m) (IsTimeFlaw octets) flaws o out_told told_out is

-- the first flaw of what follows a time is that of a second time
pub first_second : (octets rest : List ℕ) (m : Moment) → Begins IsTime octets m rest → (flaws : List TimeFlaw) (o : Option TimeFlaw)
    → IsFirstTrue (IsTimeFlaw rest) flaws o → IsFirstTrue (IsSecondTimeFlaw octets) flaws o
first_second octets rest m begins flaws o is =
    first_so (IsTimeFlaw rest) (IsSecondTimeFlaw octets) flaws o
    (λ f p. (m, rest, begins, p))
    (λ f p.
    let (n, tail, other, flaw) = p in
    let there : Begins IsTime (begins.text ++ rest) n tail = subst (λ (l : List ℕ). Begins IsTime l n tail) begins.parts other in
    subst (λ (l : List ℕ). IsTimeFlaw l f)
    (begins_one IsTime (unambiguous IsTime time_format) m n begins.text rest tail begins.encoded there).1 flaw)
    is

-- ---- no numbers

-- nothing is found, for another reason
none_so : {X : Type 0} (P Q : Type 0) (o : Option X) → IfNone o P → (P → Q) → IfNone o Q
none_so P Q (Some x) is so = tt
none_so P Q None is so = so is

-- nothing is found, where that holds anyway
pub none_anyway : {X : Type 0} (P : Type 0) (o : Option X) → P → IfNone o P
none_anyway P (Some x) p = tt
none_anyway P None p = p

-- the numbers of a GeneralizedTime are in its content
pub content_of : (m : Moment) (octets : List ℕ) → Means IsGeneralizedTime m octets →
    Means (IsEnc GENERALIZED_TIME) (two (m.year / 100) ++ (two (m.year % 100) ++ after_year m)) octets
content_of m octets (rest, b) = (rest, record { text = b.text; encoded = b.encoded; parts = b.parts })

module _ (content octets : List ℕ) where
  -- the content of a GeneralizedTime that stands there is that of no numbers
  pub none_generalized : {X : Type 0} (o : Option X) → Means (IsEnc GENERALIZED_TIME) content octets
      → IfNone o ((m : Moment) → m.year < 10000 → HasTwoDigits m → content ≡ two (m.year / 100) ++ (two (m.year % 100) ++ after_year m) → ⊥)
      → IfNone o ((m : Moment) → m.year < 10000 → HasTwoDigits m → Means IsGeneralizedTime m octets → ⊥)
  none_generalized o means none =
      none_so _ _ o none
      (λ fails m year digits there. fails m year digits (one_content GENERALIZED_TIME content _ octets means (content_of m octets there)))

  -- that of a UTCTime is
  pub none_utc : {X : Type 0} (o : Option X) → Means (IsEnc UTC_TIME) content octets
      → IfNone o ((m : Moment) → HasTwoDigits m → content ≡ two (m.year % 100) ++ after_year m → ⊥)
      → IfNone o ((m : Moment) → Means HasNumbers m octets → ⊥)
  none_utc o means none =
      none_so _ _ o none
      (λ fails m (rest, s). elim s.encoded.encoded [
        | inl g ↦ fails m s.encoded.digits
            (one_content UTC_TIME content _ octets means
            (rest, record { text = s.text; encoded = g.2; parts = s.parts }))
        | inr g ↦
            let here = first_octet UTC_TIME content octets means in
            let there = first_octet GENERALIZED_TIME _ octets (rest, record { text = s.text; encoded = g; parts = s.parts }) in
            let clash : UTC_TIME ∷ here.0 ≡ GENERALIZED_TIME ∷ there.0 = sym here.1 ∙ there.1 in
            cc
      ])

-- neither form stands there
pub none_numbered : {X : Type 0} (octets : List ℕ) (o : Option X)
    → ((content rest : List ℕ) → Begins (IsEnc UTC_TIME) octets content rest → ⊥)
    → IfNone o ((m : Moment) → m.year < 10000 → HasTwoDigits m → Means IsGeneralizedTime m octets → ⊥)
    → IfNone o ((m : Moment) → Means HasNumbers m octets → ⊥)
none_numbered octets o no_utc none =
    none_so _ _ o none
    (λ fails m (rest, s). elim s.encoded.encoded [
      | inl g ↦ no_utc _ rest (record { text = s.text; encoded = g.2; parts = s.parts })
      | inr g ↦ fails m s.encoded.year s.encoded.digits (rest, record { text = s.text; encoded = g; parts = s.parts })
    ])
