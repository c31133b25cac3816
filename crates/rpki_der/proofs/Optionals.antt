-- Values that may be absent.
use Rattle.std.proofs.Common.{◌≡◌, ℕ, eqb, List, [], ◌∷◌, ◌++◌, Option, Some, None, Result, Ok, Err, refl, sym, ap, subst, ◌∙◌, inl, inr}
use Rattle.std.proofs.lemmas.Bool.{cases_Bool, eq-eqb, ne_eqb, eqb-false}
use Rattle.rpki_der.specs.declared.error.DecodeError.{DecodeError}
use Rattle.rpki_der.specs.Place.{Place, remaining, ReadsFrontOrAbsent, ReadsFrontOrAbsentOrMemory}
use Rattle.rpki_der.specs.Place.Reading.{Took, TookOrMemory}
use Rattle.rpki_der.specs.Reading.{optional, map_value, ReadsBefore, Reads, ReadsOrAbsent, Optional, BeginWith}
use Rattle.rpki_der.specs.Values.Reading.{◌>>=◌}
use Rattle.rpki_der.specs.Encoding.{BeginsOrAbsent, BeginsOther}
use Rattle.rpki_der.specs.Values.{AreOctets}
use Rattle.rpki_der.proofs.Answering.{rejects}
use Rattle.rpki_der.proofs.Octets.{bind_some, some, some_is, nothing}

module _ {X : Type 0} (t : ℕ) (f : List ℕ → Option (X × List ℕ)) where
  optional_none : (octets : List ℕ) → BeginsOther t octets → optional t f octets ≡ some {A = Option X × List ℕ} (None, octets)
  optional_none [] other = refl
  optional_none (b ∷ octets) other = rw (ne_eqb b t other) refl

  optional_some : (octets tail : List ℕ) (x : X) (rest : List ℕ) → octets ≡ t ∷ tail →
      f octets ≡ some {A = X × List ℕ} (x, rest) → optional t f octets ≡ some {A = Option X × List ℕ} (Some x, rest)
  optional_some [] tail x rest begin e = absurd cc
  optional_some (b ∷ octets) tail x rest begin e = let same : b ≡ t = cc in rw (eq-eqb b t same, e) refl

  module _ (S : X → List ℕ → Type 0) (F : Reads f S) (begin : BeginWith t S) where
    optional_takes : (octets : List ℕ) (o : Option X) (rest : List ℕ) → AreOctets octets →
        optional t f octets ≡ some {A = Option X × List ℕ} (o, rest) → BeginsOrAbsent t (Optional S) octets o rest
    optional_takes [] o rest fits e =
        let made : Option X × List ℕ = (None, []) in
        subst (λ (q : Option X × List ℕ). BeginsOrAbsent t (Optional S) [] q.0 q.1) (some_is made (o, rest) e)
        (record { text = []; encoded = refl; parts = refl; absent = λ _. tt })
    optional_takes (b ∷ octets) o rest fits e =
        elim (cases_Bool (eqb b t)) [
          | inl y ↦
              let e1 : (f (b ∷ octets) >>= λ x. some {A = Option X × List ℕ} (Some x.0, x.1)) ≡
              some {A = Option X × List ℕ} (o, rest) = rw y at e in
              let a = bind_some (f (b ∷ octets)) (λ x. some {A = Option X × List ℕ} (Some x.0, x.1)) (o, rest) e1 in
              let one = F.takes (b ∷ octets) a.0.0 a.0.1 fits a.1 in
              let made : Option X × List ℕ = (Some a.0.0, a.0.1) in
              let tagged = begin a.0.0 one.text one.encoded in
              subst (λ (q : Option X × List ℕ). BeginsOrAbsent t (Optional S) (b ∷ octets) q.0 q.1) (some_is made (o, rest) a.2)
              (record { text = one.text; encoded = one.encoded; parts = one.parts; absent = λ none. absurd (cc (tagged.1, none)) })
          | inr n ↦
              let made : Option X × List ℕ = (None, b ∷ octets) in
              let e1 : some made ≡ some {A = Option X × List ℕ} (o, rest) = rw n at e in
              subst (λ (q : Option X × List ℕ). BeginsOrAbsent t (Optional S) (b ∷ octets) q.0 q.1) (some_is made (o, rest) e1)
              (record { text = []; encoded = refl; parts = refl; absent = λ _. eqb-false b t n })
        ]

    optional_again : (octets : List ℕ) (o : Option X) (rest text : List ℕ) → Optional S o text →
        octets ≡ text ++ rest → (text ≡ [] → BeginsOther t octets) →
        optional t f octets ≡ some {A = Option X × List ℕ} (o, rest)
    optional_again octets None rest text s parts absent =
        let same : octets ≡ rest = parts ∙ ap (λ (y : List ℕ). y ++ rest) s in
        rw (optional_none octets (absent s), same) refl
    optional_again octets (Some x) rest text s parts absent =
        let tagged = begin x text s in
        let one : f octets ≡ some {A = X × List ℕ} (x, rest) = ap f parts ∙ F.again x text rest s in
        optional_some octets (tagged.0 ++ rest) x rest (parts ∙ ap (λ (y : List ℕ). y ++ rest) tagged.1) one

    -- an optional value is read lawfully, absent or not
    pub optional_or_absent : ReadsOrAbsent t (optional t f) (Optional S)
    optional_or_absent = record {
      takes = optional_takes;
      again = λ octets o rest b. optional_again octets o rest
          b.text b.encoded b.parts b.absent;
    }

-- a value stands before octets that begin otherwise
pub absent_before : {X : Type 0} (t : ℕ) (f : List ℕ → Option (X × List ℕ)) (S : X → List ℕ → Type 0) →
    ReadsOrAbsent t f S → ReadsBefore (BeginsOther t) f S
absent_before t f S F = record {
  takes = λ octets v rest fits e. let b = F.takes octets v rest fits e in record { text = b.text; encoded = b.encoded; parts = b.parts };
  again = λ v text rest s other. F.again (text ++ rest) v rest
      (record { text = text; encoded = s; parts = refl; absent = λ none. rw none other });
}

-- an optional value is read lawfully where another tag follows
pub optional_before : {X : Type 0} (t : ℕ) (f : List ℕ → Option (X × List ℕ)) (S : X → List ℕ → Type 0) → Reads f S →
    BeginWith t S → ReadsBefore (BeginsOther t) (optional t f) (Optional S)
optional_before t f S F begin = absent_before t (optional t f) (Optional S) (optional_or_absent t f S F begin)

-- what a function makes of the value
pub map_value_or_absent : {X Y : Type 0} (t : ℕ) (to : X → Y) (f : List ℕ → Option (X × List ℕ))
    (S : X → List ℕ → Type 0) (T : Y → List ℕ → Type 0) → ReadsOrAbsent t f S
    → ((x : X) (text : List ℕ) → S x text → T (to x) text) →
    ((y : Y) (text : List ℕ) → T y text → (x : X) × (to x ≡ y) × S x text) → ReadsOrAbsent t (map_value to f) T
map_value_or_absent {X} {Y} t to f S T F there back = record {
  takes = λ octets y rest fits e.
      let a = bind_some (f octets) (λ x. Some (to x.0, x.1)) (y, rest) e in
      let b = F.takes octets a.0.0 a.0.1 fits a.1 in
      let made : Y × List ℕ = (to a.0.0, a.0.1) in
      subst (λ (q : Y × List ℕ). BeginsOrAbsent t T octets q.0 q.1) (some_is made (y, rest) a.2)
      (record { text = b.text; encoded = there a.0.0 b.text b.encoded; parts = b.parts; absent = b.absent });
  again = λ octets y rest b.
      let x = back y b.text b.encoded in
      rw (F.again octets x.0 rest (record { text = b.text; encoded = x.2; parts = b.parts; absent = b.absent }), x.1) refl;
}

-- ---- both directions of a reader

module _ {X : Type 0} (t : ℕ) (f : List ℕ → Option (X × List ℕ)) (S : X → List ℕ → Type 0) (F : ReadsOrAbsent t f S) where
  none_begins : (octets : List ℕ) → f octets ≡ None → (x : X) (rest : List ℕ) → BeginsOrAbsent t S octets x rest → ⊥
  none_begins octets e x rest b = nothing {B = ⊥} (x, rest) (sym e ∙ F.again octets x rest b)

  -- a reader that takes such a value answers both ways
  pub answers_or_absent : (old : Place) (r : Result X DecodeError) (new : Place) → AreOctets (remaining old) →
      Took f old r new → ReadsFrontOrAbsent t S old r new
  answers_or_absent old (Ok x) new fits e = F.takes (remaining old) x (remaining new) fits e
  answers_or_absent old (Err d) new fits e = (e.0, none_begins (remaining old) e.1)

  -- a reader of such a value that may run out of memory answers both ways
  pub answers_or_absent_or_memory : (old : Place) (r : Result X DecodeError) (new : Place) →
      AreOctets (remaining old) → TookOrMemory f old r new → ReadsFrontOrAbsentOrMemory t S old r new
  answers_or_absent_or_memory old (Ok x) new fits e = F.takes (remaining old) x (remaining new) fits e
  answers_or_absent_or_memory old (Err d) new fits e = rejects d (none_begins (remaining old)) e
