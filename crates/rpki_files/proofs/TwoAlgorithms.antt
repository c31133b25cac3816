-- The algorithm inside what is signed of a list, and the one beside its signature.
use Rattle.std.specs.Prelude.{◌↔◌, Bool, true, false, not, is_ok, IsTrue, MatchResult, Result, Ok, Err}
use Rattle.std.proofs.Common.{◌≡◌, ◌++◌, List, ℕ, refl, sym, ap, subst, ◌∙◌, append_assoc}
use Rattle.std.proofs.lemmas.Bool.{false≢true}
use Rattle.rpki_parts.specs.Algorithms.{Algorithm, algorithm_format}
use Rattle.rpki_der.specs.declared.error.DecodeError.{DecodeError}
use Rattle.rpki_der.specs.Encoding.{Begins, Means}
use Rattle.rpki_der.specs.Formats.{then}
use Rattle.rpki_crl.specs.Lists.{version_2}
use Rattle.rpki_der.specs.Place.{Place, ReadsFrontBy, remaining}
use Rattle.rpki_der.proofs.FormatAnswers.{alone_means, then_alone}
use Rattle.rpki_der.proofs.Formats.{one_meant}
use Rattle.rpki_der.proofs.RoundTrips.{begins_one}
use Rattle.rpki_parts.proofs.PartFormats.{algorithm_alone}
use Rattle.rpki_crl.proofs.ListFormats.{version_alone}
use Rattle.rpki_files.specs.StopPlaces.{AlgorithmsDiffer, HasAlgorithm, HasOther}

-- there is one inside
pub one_inside : (a b : Algorithm) (signed : List ℕ) → HasAlgorithm a signed → HasAlgorithm b signed → a ≡ b
one_inside a b signed m n =
    let front = then version_2 algorithm_format in
    ap (λ (p : Unit {0} × Algorithm). p.1)
    (one_meant front.encodes
    (alone_means front (then_alone version_2 algorithm_format version_alone algorithm_alone)) (tt, a) (tt, b)
    signed m n)

-- and one beside
pub one_beside : (a b : Algorithm) (octets : List ℕ) → Means algorithm_format.encodes a octets →
    Means algorithm_format.encodes b octets → a ≡ b
one_beside a b octets = one_meant algorithm_format.encodes (alone_means algorithm_format algorithm_alone) a b octets

-- it stands behind the version
pub inside_is : (a : Algorithm) (signed tail rest : List ℕ) → Begins version_2.encodes signed tt tail →
    Begins algorithm_format.encodes tail a rest → HasAlgorithm a signed
inside_is a signed tail rest v w = (
  rest,
  record {
    text = v.text ++ w.text;
    encoded = (v.text, w.text, v.encoded, w.encoded, refl);
    parts = v.parts ∙ ap (λ (l : List ℕ). v.text ++ l) w.parts ∙ sym (append_assoc v.text w.text rest);
  },
)

-- where one stands, a version stands before it
pub version_before : (a : Algorithm) (signed : List ℕ) (m : HasAlgorithm a signed) →
    Begins version_2.encodes signed tt (m.1.encoded.1 ++ m.0)
version_before a signed m = record {
  text = m.1.encoded.0;
  encoded = m.1.encoded.2;
  parts = m.1.parts ∙ ap (λ (l : List ℕ). l ++ m.0) m.1.encoded.4 ∙ append_assoc m.1.encoded.0 m.1.encoded.1 m.0;
}

-- so none stands where no version does
pub no_version : (a : Algorithm) (signed : List ℕ) →
    ((u : Unit {0}) (rest : List ℕ) → Begins version_2.encodes signed u rest → ⊥) → HasAlgorithm a signed → ⊥
no_version a signed none m = none tt _ (version_before a signed m)

-- nor where none stands behind the version
pub none_behind : (a : Algorithm) (signed tail : List ℕ) → Begins version_2.encodes signed tt tail →
    ((b : Algorithm) (rest : List ℕ) → Begins algorithm_format.encodes tail b rest → ⊥) → HasAlgorithm a signed → ⊥
none_behind a signed tail v none m =
    let again = subst (λ (o : List ℕ). Begins version_2.encodes o tt (m.1.encoded.1 ++ m.0)) v.parts (version_before a signed m) in
    let same = begins_one version_2.encodes (alone_means version_2 version_alone) tt tt v.text tail
    (m.1.encoded.1 ++ m.0) v.encoded again in
    none a m.0 (record { text = m.1.encoded.1; encoded = m.1.encoded.3; parts = sym same.1 })

-- ---- answers

-- whether one stands inside
abbrev pub IsInside : List ℕ → Result Algorithm DecodeError → Type 0
IsInside signed r = MatchResult r (λ a. HasAlgorithm a signed) (λ _. (a : Algorithm) → HasAlgorithm a signed → ⊥)

-- it is read behind the version
pub inside_read : (old mid new : Place) (v : Result (Unit {0}) DecodeError) (r : Result Algorithm DecodeError) →
    ReadsFrontBy (λ x. x) version_2.encodes old v mid → ReadsFrontBy (λ x. x) algorithm_format.encodes mid r new
    → is_ok v ≡ true → IsInside (remaining old) r
inside_read old mid new (Ok u) (Ok a) v w ok = inside_is a (remaining old) (remaining mid) (remaining new) v w
inside_read old mid new (Ok u) (Err e) v w ok = λ a m. none_behind a (remaining old) (remaining mid) v w.1 m
inside_read old mid new (Err e) r v w ok = absurd (false≢true ok)

-- none is where no version is read
pub not_inside : (old mid : Place) (v : Result (Unit {0}) DecodeError) →
    ReadsFrontBy (λ x. x) version_2.encodes old v mid → is_ok v ≡ false → (a : Algorithm) →
    HasAlgorithm a (remaining old) → ⊥
not_inside old mid (Ok u) v bad a m = false≢true (sym bad)
not_inside old mid (Err e) v bad a m = no_version a (remaining old) v.1 m

-- whether another one stands beside
pub other_stands : (a b : Algorithm) (octets : List ℕ) (same : Bool) → Means algorithm_format.encodes b octets →
    IsTrue same ↔ a ≡ b → IsTrue (not same) ↔ HasOther a octets
other_stands a b octets true m says = ((λ no. absurd (false≢true no)), (λ o. absurd (o.2 (says.0 refl ∙ one_beside b o.0 octets m o.1))))
other_stands a b octets false m says = ((λ yes. (b, m, λ same. false≢true (says.1 same))), (λ o. refl))

pub none_stands : (a : Algorithm) (octets : List ℕ) →
    ((b : Algorithm) (rest : List ℕ) → Begins algorithm_format.encodes octets b rest → ⊥) →
    IsTrue false ↔ HasOther a octets
none_stands a octets none = ((λ no. absurd (false≢true no)), (λ o. absurd (none o.0 o.1.0 o.1.1)))

-- whether both differ
pub differ_as : (a : Algorithm) (signed here : Place) (differs : Bool) → HasAlgorithm a (remaining signed) →
    IsTrue differs ↔ HasOther a (remaining here) → IsTrue differs ↔ AlgorithmsDiffer true signed here
differ_as a signed here differs inside says = (
  (λ yes. (a, inside, says.0 yes)),
  (λ d. says.1 (subst (λ (b : Algorithm). HasOther b (remaining here)) (one_inside d.0 a (remaining signed) d.1 inside) d.2)),
)

pub none_differs : (signed here : Place) → ((a : Algorithm) → HasAlgorithm a (remaining signed) → ⊥) →
    IsTrue false ↔ AlgorithmsDiffer true signed here
none_differs signed here none = ((λ no. absurd (false≢true no)), (λ d. absurd (none d.0 d.1)))
