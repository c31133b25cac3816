-- The sequence of extensions that is made, step by step.
use Rattle.std.specs.List.{AllByRecursion, concat, filter, sum_by}
use Rattle.std.specs.Prelude.{nat_eq}
use Rattle.std.proofs.Common.{◌≡◌, ◌≢◌, ◌⊎◌, ℕ, zero, suc, ◌+◌, ◌^◌, ◌<◌, ◌≤◌, true, false, List, [], ◌∷◌, ◌++◌}
use Rattle.std.proofs.Common.{length, map, get_or, take, drop, set, replicate, add-one, drop-cons, refl, sym, ap}
use Rattle.std.proofs.Common.{subst, ◌∙◌, arith, inl, inr, append_assoc}
use Rattle.std.proofs.lemmas.Bool.{cases_Bool, eq-eqb, eqb-true}
use Rattle.std.proofs.lemmas.List.{get_or-set_same, get_or-set_other, get_or-replicate, length-replicate, length-set}
use Rattle.std.proofs.lemmas.List.{length-append, take_all, take_more, append-nil, map-append}
use Rattle.std.proofs.lemmas.List.Elements.{filter-append}
use Rattle.std.proofs.lemmas.List.Folds.{concat-append}
use Rattle.std.proofs.lemmas.List.Sums.{sum_by-append, sum_by-cons}
use Rattle.rpki_der.specs.Primitives.{IsOid}
use Rattle.rpki_cert.specs.Rearranging.{ArePlaced, added_at, sequence_from, written}
use Rattle.rpki_cert.specs.Rearranging.Steps.{HaveAdded, HasLong, joined}
use Rattle.rpki_cert.specs.declared.extra.Extra.{Extra}
use Rattle.rpki_cert.proofs.Orders.{all_now}

abbrev none : List ℕ
none = []

-- one piece more is appended to the pieces before it
pub concat_more : (xs : List (List ℕ)) (i : ℕ) → i < length xs → concat (take (i + 1) xs) ≡ concat (take i xs) ++ get_or xs i []
concat_more xs i inside = ap concat (take_more xs i [] inside) ∙ concat-append (take i xs) (get_or xs i [] ∷ []) ∙
    ap (λ (s : List ℕ). concat (take i xs) ++ s) (append-nil (get_or xs i []))

-- one more empty piece stands behind the others
pub replicate_more : (n : ℕ) → replicate n none ++ none ∷ [] ≡ replicate (n + 1) none
replicate_more zero = refl
replicate_more (suc n) = rw (add-one (suc n)) (ap (λ (s : List (List ℕ)). none ∷ s) (replicate_more n ∙ rw (add-one n) refl))

-- ---- what is added at each place

-- what was gathered of the first i
pub record AreAddedSoFar (count : ℕ) (places : List (List ℕ)) (extras : List Extra) (i : ℕ) : Type 0 where
  pub as_many : length places ≡ count
  pub have_added : HaveAdded count (take i extras) places
  pub valid : AllByRecursion (λ x. IsOid x.oid) (take i extras)

-- before the first extension nothing is added
pub added_starts : (count : ℕ) (places : List (List ℕ)) (extras : List Extra) → places ≡ replicate count [] →
    AreAddedSoFar count places extras 0
added_starts count places extras e = record {
  as_many = rw e (length-replicate count []);
  have_added = λ place below. rw e (get_or-replicate count place [] [] below);
  valid = tt;
}

-- one more is added at its place, and at no other
added_here : (place : ℕ) (xs : List Extra) (x : Extra) → nat_eq x.at place ≡ true →
    concat (added_at place (xs ++ x ∷ [])) ≡ concat (added_at place xs) ++ written x
added_here place xs x same =
    let one : filter (λ y. nat_eq y.at place) (x ∷ []) ≡ x ∷ [] = rw same refl in
    ap (λ (ys : List Extra). concat (map written ys))
    (filter-append (λ y. nat_eq y.at place) xs (x ∷ []) ∙
    ap (λ (ys : List Extra). filter (λ y. nat_eq y.at place) xs ++ ys) one)
    ∙ ap concat (map-append written (filter (λ y. nat_eq y.at place) xs) (x ∷ []))
    ∙ concat-append (added_at place xs) (written x ∷ [])
    ∙ ap (λ (s : List ℕ). concat (added_at place xs) ++ s) (append-nil (written x))

added_elsewhere : (place : ℕ) (xs : List Extra) (x : Extra) → nat_eq x.at place ≡ false →
    concat (added_at place (xs ++ x ∷ [])) ≡ concat (added_at place xs)
added_elsewhere place xs x other =
    let none : filter (λ y. nat_eq y.at place) (x ∷ []) ≡ [] = rw other refl in
    ap (λ (ys : List Extra). concat (map written ys))
    (filter-append (λ y. nat_eq y.at place) xs (x ∷ []) ∙
    ap (λ (ys : List Extra). filter (λ y. nat_eq y.at place) xs ++ ys) none ∙
    append-nil (filter (λ y. nat_eq y.at place) xs))

-- an added extension stands at its place
pub added_goes_on : (count : ℕ) (places : List (List ℕ)) (extras : List Extra) (i : ℕ) (x : Extra) (now : List ℕ) →
    i < length extras → x ≡ get_or extras i x → x.at < count → IsOid x.oid →
    now ≡ get_or places x.at [] ++ written x → AreAddedSoFar count places extras i →
    AreAddedSoFar count (set places x.at now) extras (i + 1)
added_goes_on count places extras i x now inside at_i low oid is h =
    let more : take (i + 1) extras ≡ take i extras ++ x ∷ [] = take_more extras i x inside ∙
    ap (λ (y : Extra). take i extras ++ y ∷ []) (sym at_i) in
    record {
      as_many = length-set places x.at now ∙ h.as_many;
      have_added = λ place below.
          elim (cases_Bool (nat_eq x.at place)) [
            | inl same ↦
                let is_here : place ≡ x.at = sym (eqb-true x.at place same) in
                let put : get_or (set places x.at now) place [] ≡ now =
                rw is_here (get_or-set_same places x.at now [] (omega (arith, low, h.as_many))) in
                let had : get_or places x.at [] ≡ concat (added_at place (take i extras)) =
                ap (λ (k : ℕ). get_or places k []) (sym is_here) ∙ h.have_added place below in
                put ∙ is ∙ ap (λ (s : List ℕ). s ++ written x) had ∙ sym (added_here place (take i extras) x same) ∙
                ap (λ (ys : List Extra). concat (added_at place ys)) (sym more)
            | inr other ↦
                let apart : place ≢ x.at = λ e. let yes : nat_eq x.at place ≡ true = eq-eqb x.at place (sym e) in cc in
                get_or-set_other places x.at place now [] apart ∙ h.have_added place below ∙
                sym (added_elsewhere place (take i extras) x other) ∙
                ap (λ (ys : List Extra). concat (added_at place ys)) (sym more)
          ];
      valid = subst (λ (ys : List Extra). AllByRecursion (λ y. IsOid y.oid) ys) (sym more)
          (all_now (λ y. IsOid y.oid) (take i extras) x h.valid oid);
    }

-- at the end all extensions are added
pub added_ends : (count : ℕ) (places : List (List ℕ)) (extras : List Extra) (i : ℕ) → length extras ≤ i →
    AreAddedSoFar count places extras i → HaveAdded count extras places × AllByRecursion (λ x. IsOid x.oid) extras
added_ends count places extras i all h = (
  subst (λ (ys : List Extra). HaveAdded count ys places) (take_all i extras all) h.have_added,
  subst (λ (ys : List Extra). AllByRecursion (λ x. IsOid x.oid) ys) (take_all i extras all) h.valid,
)

-- an added extension that is too long is one of those
pub long_at : (extras : List Extra) (i : ℕ) (x : Extra) → i < length extras → x ≡ get_or extras i x →
    2 ^ 32 ≤ length (written x) → HasLong extras
long_at [] i x inside is long = absurd (omega arith)
long_at (y ∷ extras) zero x inside is long = inl (rw (← is) long)
long_at (y ∷ extras) (suc i) x inside is long = inr (long_at extras i x (omega arith) is long)

-- ---- the sequence

-- the sequence goes on with what is added at a place, and the extension that the order names there
pub joined_goes_on : (order : List ℕ) (places old : List (List ℕ)) (i : ℕ) (elements total : List ℕ) →
    i < length order → length places ≡ length order + 1
    → elements ++ joined (drop i order) (drop i places) old ≡ total
    → ((elements ++ get_or places i []) ++ get_or old (get_or order i 0) []) ++
    joined (drop (i + 1) order) (drop (i + 1) places) old ≡ total
joined_goes_on order places old i elements total inside many h =
    let o : drop i order ≡ get_or order i 0 ∷ drop (suc i) order = drop-cons order i 0 inside in
    let p : drop i places ≡ get_or places i [] ∷ drop (suc i) places = drop-cons places i [] (omega (arith, many)) in
    let step : joined (drop i order) (drop i places) old ≡ get_or places i [] ++
    (get_or old (get_or order i 0) [] ++ joined (drop (suc i) order) (drop (suc i) places) old) =
    rw (o, p) refl in
    let rest = joined (drop (suc i) order) (drop (suc i) places) old in
    rw (add-one i) (append_assoc (elements ++ get_or places i []) (get_or old (get_or order i 0) []) rest ∙
    append_assoc elements (get_or places i []) (get_or old (get_or order i 0) [] ++ rest) ∙
    ap (λ (s : List ℕ). elements ++ s) (sym step) ∙ h)

-- the sequence ends with what is added behind the last extension
pub joined_ends : (order : List ℕ) (places old : List (List ℕ)) (i : ℕ) (elements total : List ℕ) → i ≡ length order →
    length places ≡ length order + 1
    → elements ++ joined (drop i order) (drop i places) old ≡ total → elements ++ get_or places i [] ≡ total
joined_ends order places old i elements total end many h =
    let o : drop i order ≡ [] = drop_end order i (omega (arith, end)) in
    let p : drop i places ≡ get_or places i [] ∷ drop (suc i) places = drop-cons places i [] (omega (arith, many, end)) in
    let last : joined (drop i order) (drop i places) old ≡ get_or places i [] = rw (o, p) refl in
    ap (λ (s : List ℕ). elements ++ s) (sym last) ∙ h
  where
    drop_end : (xs : List ℕ) (n : ℕ) → length xs ≤ n → drop n xs ≡ []
    drop_end [] zero h = refl
    drop_end [] (suc n) h = refl
    drop_end (x ∷ xs) zero h = absurd (omega arith)
    drop_end (x ∷ xs) (suc n) h = drop_end xs n (omega arith)

-- what is joined are the octets of the sequence
pub joined_is : (order : List ℕ) (places old : List (List ℕ)) (extras : List Extra) (place : ℕ) → length places ≡ length order + 1
    → ((i : ℕ) → i < length places → get_or places i [] ≡ concat (added_at (place + i) extras)) →
    joined order places old ≡ concat (sequence_from place order extras old)
joined_is order [] old extras place many have = absurd (omega (arith, many))
joined_is [] (added ∷ places) old extras place many have = have 0 (omega arith) ∙ ap (λ (k : ℕ). concat (added_at k extras)) (omega arith)
joined_is (named ∷ order) (added ∷ places) old extras place many have =
    let first : added ≡ concat (added_at place extras) = have 0 (omega arith) ∙ ap (λ (k : ℕ). concat (added_at k extras)) (omega arith) in
    let rest : joined order places old ≡ concat (sequence_from (place + 1) order extras old) =
    joined_is order places old extras (place + 1) (omega (arith, many))
    (λ i below. have (suc i) (omega (arith, below)) ∙ ap (λ (k : ℕ). concat (added_at k extras))
    (omega arith)) in
    ap (λ (s : List ℕ). s ++ (get_or old named [] ++ joined order places old)) first
    ∙ ap (λ (s : List ℕ). concat (added_at place extras) ++ (get_or old named [] ++ s)) rest
    ∙ sym (concat-append (added_at place extras) (get_or old named [] ∷ sequence_from (place + 1) order extras old))

-- ---- what holds of all of the sequence

all_parts : {X : Type 0} (P : X → Type 0) (xs ys : List X) → AllByRecursion P (xs ++ ys) → AllByRecursion P xs × AllByRecursion P ys
all_parts P [] ys h = (tt, h)
all_parts P (x ∷ xs) ys h = let r = all_parts P xs ys h.1 in ((h.0, r.0), r.1)

all_here : (P : List ℕ → Type 0) (place : ℕ) (extras : List Extra) → AllByRecursion P (added_at place extras) →
    AllByRecursion (λ x. x.at ≡ place → P (written x)) extras
all_here P place [] h = tt
all_here P place (x ∷ extras) h =
    elim (cases_Bool (nat_eq x.at place)) [
      | inl same ↦
          let split : added_at place (x ∷ extras) ≡ written x ∷ added_at place extras = rw same refl in
          let g : AllByRecursion P (written x ∷ added_at place extras) = subst (λ (ps : List (List ℕ)). AllByRecursion P ps) split h in
          ((λ e. g.0), all_here P place extras g.1)
      | inr other ↦
          let split : added_at place (x ∷ extras) ≡ added_at place extras = rw other refl in
          let g : AllByRecursion P (added_at place extras) = subst (λ (ps : List (List ℕ)). AllByRecursion P ps) split h in
          ((λ e. let yes : nat_eq x.at place ≡ true = eq-eqb x.at place e in absurd cc), all_here P place extras g)
    ]

all_joined : (A B C : Extra → Type 0) → ((x : Extra) → A x → B x → C x) → (xs : List Extra) → AllByRecursion A xs →
    AllByRecursion B xs → AllByRecursion C xs
all_joined A B C f [] a b = tt
all_joined A B C f (x ∷ xs) a b = (f x a.0 b.0, all_joined A B C f xs a.1 b.1)

all_from : (P : List ℕ → Type 0) (place : ℕ) (order : List ℕ) (extras : List Extra) (old : List (List ℕ)) →
    AllByRecursion P (sequence_from place order extras old)
    → AllByRecursion (λ x. place ≤ x.at → x.at ≤ place + length order → P (written x)) extras
all_from P place [] extras old h =
    let here = all_here P place extras h in
    let C : Extra → Type 0 = λ x. place ≤ x.at → x.at ≤ place + 0 → P (written x) in
    all_joined (λ x. x.at ≡ place → P (written x)) (λ x. x.at ≡ place → P (written x)) C
    (λ x a b low high. a (omega (arith, low, high))) extras here here
all_from P place (named ∷ order) extras old h =
    let parts = all_parts P (added_at place extras) (get_or old named [] ∷ sequence_from (place + 1) order extras old) h in
    let here = all_here P place extras parts.0 in
    let later = all_from P (place + 1) order extras old parts.1.1 in
    let A : Extra → Type 0 = λ x. x.at ≡ place → P (written x) in
    let B : Extra → Type 0 = λ x. place + 1 ≤ x.at → x.at ≤ place + 1 + length order → P (written x) in
    let C : Extra → Type 0 = λ x. place ≤ x.at → x.at ≤ place + suc (length order) → P (written x) in
    all_joined A B C (λ x a b low high. elim (cases_Bool (nat_eq x.at place)) [
      | inl same ↦ a (eqb-true x.at place same)
      | inr other ↦
          let apart : x.at ≢ place = λ e. let yes : nat_eq x.at place ≡ true = eq-eqb x.at place e in cc in
          b (omega (arith, low, apart)) (omega (arith, high))
    ]) extras here later

-- each that is added is in the sequence
pub all_added : (P : List ℕ → Type 0) (order : List ℕ) (extras : List Extra) (old : List (List ℕ)) →
    ArePlaced (length order) extras → AllByRecursion P (sequence_from 0 order extras old) →
    AllByRecursion (λ x. P (written x)) extras
all_added P order extras old placed h =
    let A : Extra → Type 0 = λ x. 0 ≤ x.at → x.at ≤ 0 + length order → P (written x) in
    let B : Extra → Type 0 = λ x. x.at ≤ length order in
    all_joined A B (λ x. P (written x)) (λ x a b. a (omega arith) (omega (arith, b))) extras (all_from P 0 order extras old h) placed

piece_longer : (ps : List (List ℕ)) → AllByRecursion (λ p. length p ≤ length (concat ps)) ps
piece_longer [] = tt
piece_longer (p ∷ ps) = (
  omega (arith, length-append p (concat ps)),
  longer ps (length (concat ps)) (length (p ++ concat ps)) (omega (arith, length-append p (concat ps)))
      (piece_longer ps),
)
  where
    longer : (ps : List (List ℕ)) (m n : ℕ) → m ≤ n → AllByRecursion (λ p. length p ≤ m) ps → AllByRecursion (λ p. length p ≤ n) ps
    longer [] m n h a = tt
    longer (p ∷ ps) m n h a = (omega (arith, h, a.0), longer ps m n h a.1)

some_long : (extras : List Extra) (n : ℕ) → HasLong extras → AllByRecursion (λ x. length (written x) ≤ n) extras → 2 ^ 32 ≤ n
some_long [] n h a = absurd h
some_long (x ∷ extras) n (inl h) a = omega (arith, h, a.0)
some_long (x ∷ extras) n (inr h) a = some_long extras n h a.1

-- where one alone is too long, so is the sequence
pub long_sequence : (order : List ℕ) (extras : List Extra) (old : List (List ℕ)) → ArePlaced (length order) extras →
    HasLong extras → 2 ^ 32 ≤ length (concat (sequence_from 0 order extras old))
long_sequence order extras old placed h =
    some_long extras (length (concat (sequence_from 0 order extras old))) h
    (all_added (λ p. length p ≤ length (concat (sequence_from 0 order extras old))) order extras old placed
    (piece_longer (sequence_from 0 order extras old)))

-- ---- how often a piece stands in the sequence

added_sums : (f : List ℕ → ℕ) (P : Type 0) (place : ℕ) (extras : List Extra) →
    AllByRecursion (λ x. (f (written x) ≡ 0) ⊎ P) extras → (sum_by f (added_at place extras) ≡ 0) ⊎ P
added_sums f P place [] h = inl refl
added_sums f P place (x ∷ extras) h =
    elim (cases_Bool (nat_eq x.at place)) [
      | inl same ↦
          let split : added_at place (x ∷ extras) ≡ written x ∷ added_at place extras = rw same refl in
          let whole : sum_by f (added_at place (x ∷ extras)) ≡ f (written x) + sum_by f (added_at place extras) =
          ap (sum_by f) split ∙ sum_by-cons f (written x) (added_at place extras) in
          elim (h.0) [
            | inl none ↦ elim (added_sums f P place extras h.1) [ inl zeros ↦ inl (omega (arith, whole, none, zeros)) | inr p ↦ inr p ]
            | inr p ↦ inr p
          ]
      | inr other ↦
          let split : added_at place (x ∷ extras) ≡ added_at place extras = rw other refl in
          elim (added_sums f P place extras h.1) [ inl zeros ↦ inl (ap (sum_by f) split ∙ zeros) | inr p ↦ inr p ]
    ]

-- of the old ones as many as the order names, and perhaps some that are added
pub sequence_sums : (f : List ℕ → ℕ) (P : Type 0) (place : ℕ) (order : List ℕ) (extras : List Extra)
    (old : List (List ℕ)) → AllByRecursion (λ x. (f (written x) ≡ 0) ⊎ P) extras
    → (sum_by f (sequence_from place order extras old) ≡ sum_by (λ named. f (get_or old named [])) order) ⊎
    (P × (sum_by (λ named. f (get_or old named [])) order ≤ sum_by f (sequence_from place order extras old)))
sequence_sums f P place [] extras old h = elim (added_sums f P place extras h) [ inl zeros ↦ inl zeros | inr p ↦ inr (p, omega arith) ]
sequence_sums f P place (named ∷ order) extras old h =
    let g : ℕ → ℕ = λ named. f (get_or old named []) in
    let rest = sequence_from (place + 1) order extras old in
    let whole : sum_by f (sequence_from place (named ∷ order) extras old) ≡ sum_by f (added_at place extras) +
    (f (get_or old named []) + sum_by f rest) =
    sum_by-append f (added_at place extras) (get_or old named [] ∷ rest) ∙
    ap (λ (n : ℕ). sum_by f (added_at place extras) + n) (sum_by-cons f (get_or old named []) rest) in
    let picked : sum_by g (named ∷ order) ≡ f (get_or old named []) + sum_by g order = sum_by-cons g named order in
    elim (sequence_sums f P (place + 1) order extras old h) [
      | inl same ↦ elim (added_sums f P place extras h) [
        | inl zeros ↦ inl (omega (arith, whole, picked, same, zeros))
        | inr p ↦ inr (p, omega (arith, whole, picked, same))
      ]
      | inr more ↦ inr (more.0, omega (arith, whole, picked, more.1))
    ]
