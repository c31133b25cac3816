-- One list is another in some order, with more members of one sort.
use Rattle.std.specs.List.{AllByRecursion, AllZip}
use Rattle.std.specs.Prelude.{bytes_eq, filter}
use Rattle.std.proofs.Common.{◌≡◌, ◌+◌, List, [], ◌∷◌, ◌++◌, ℕ, cond, arith, refl, ◌<◌, sym, ap, inl, inr, ◌≤◌, ◌⊎◌}
use Rattle.std.proofs.Common.{◌∙◌, subst, Bool, false, length}
use Rattle.std.proofs.lemmas.Bool.{cases_Bool}
use Rattle.std.proofs.lemmas.List.Sums.{sum_by-cons, sum_by-append}
use Rattle.std.proofs.lemmas.Slice.Eq.{bytes_eq-Decides}
use Rattle.std.proofs.lemmas.List.Elements.{filter-append}
use Rattle.std.proofs.lemmas.List.{length-append}
use Rattle.rpki_der.proofs.Lists.{weaken}
use Rattle.rpki_cert.specs.Rearranged.{times}

-- each member of xs is taken out of ys, and what remains has the property
abbrev pub IsReordered : {X : Type 0} → (X → Type 0) → List X → List X → Type 0
IsReordered Extra [] ys = AllByRecursion Extra ys
IsReordered {X} Extra (x ∷ xs) ys = (p : List X) × (q : List X) × (ys ≡ p ++ x ∷ q) × IsReordered Extra xs (p ++ q)

-- nothing is added
abbrev pub NoMore : {X : Type 0} → X → Type 0
NoMore x = ⊥

-- ---- from the counts of equal strings

-- 1 where x is the string
abbrev pub hit : List ℕ → List ℕ → ℕ
hit e x = cond (bytes_eq e x) 1 0

times_cons : (e x : List ℕ) (xs : List (List ℕ)) → times e (x ∷ xs) ≡ hit e x + times e xs
times_cons e x xs = sum_by-cons (hit e) x xs

times_middle : (e : List ℕ) (p : List (List ℕ)) (x : List ℕ) (q : List (List ℕ)) → times e (p ++ x ∷ q) ≡ hit e x + times e (p ++ q)
times_middle e p x q = omega (arith, sum_by-append (hit e) p (x ∷ q), sum_by-cons (hit e) x q, sum_by-append (hit e) p q)

hit_self : (e : List ℕ) → hit e e ≡ 1
hit_self e = rw ((bytes_eq-Decides e e).1 refl)

found : (e : List ℕ) (xs : List (List ℕ)) → 0 < times e xs → (p : List (List ℕ)) × (q : List (List ℕ)) × (xs ≡ p ++ e ∷ q)
found e [] h = absurd (omega arith)
found e (x ∷ xs) h =
    elim (cases_Bool (bytes_eq e x)) [
      | inl t ↦ let same = (bytes_eq-Decides e x).0 t in ([], xs, ap (λ (y : List ℕ). y ∷ xs) (sym same))
      | inr f ↦
          let miss : hit e x ≡ 0 = rw f in
          let more : 0 < times e xs = omega (arith, times_cons e x xs) in
          let r = found e xs more in
          (x ∷ r.0, r.1, ap (λ (ys : List (List ℕ)). x ∷ ys) r.2)
    ]

all_extra : (Extra : List ℕ → Type 0) (xs : List (List ℕ)) → ((e : List ℕ) → 0 < times e xs → Extra e) → AllByRecursion Extra xs
all_extra Extra [] h = tt
all_extra Extra (x ∷ xs) h =
    (h x (omega (arith, times_cons x x xs, hit_self x)), all_extra Extra xs (λ e more. h e (omega (arith, times_cons e x xs))))

-- strings that stand as often, or are of the sort and stand at least as often
pub from_times : (Extra : List ℕ → Type 0) (ps qs : List (List ℕ)) →
    ((e : List ℕ) → (times e qs ≡ times e ps) ⊎ (Extra e × (times e ps ≤ times e qs))) → IsReordered Extra ps qs
from_times Extra [] qs h = all_extra Extra qs (λ e more. elim (h e) [ inl same ↦ absurd (omega arith) | inr x ↦ x.0 ])
from_times Extra (x ∷ ps) qs h =
    let stands : 0 < times x qs =
    elim (h x) [
      | inl same ↦ omega (arith, times_cons x x ps, hit_self x)
      | inr more ↦ omega
          (arith, more.1, times_cons x x ps, hit_self x)
    ] in
    let r = found x qs stands in
    let fewer : (e : List ℕ) → times e qs ≡ hit e x + times e (r.0 ++ r.1) = λ e. ap (times e) r.2 ∙ times_middle e r.0 x r.1 in (
      r.0,
      r.1,
      r.2,
      from_times Extra ps (r.0 ++ r.1) (λ e. elim (h e) [
        | inl same ↦ inl (omega (arith, fewer e, times_cons e x ps, same))
        | inr more ↦ inr (more.0, omega (arith, fewer e, times_cons e x ps, more.1))
      ]),
    )

-- ---- what holds of all members

-- what all elements of both lists have, all of both together have
pub all_append : {X : Type 0} (P : X → Type 0) (xs ys : List X) → AllByRecursion P xs → AllByRecursion P ys → AllByRecursion P (xs ++ ys)
all_append P [] ys g h = h
all_append P (x ∷ xs) ys g h = (g.0, all_append P xs ys g.1 h)

all_parts : {X : Type 0} (P : X → Type 0) (xs ys : List X) → AllByRecursion P (xs ++ ys) → AllByRecursion P xs × AllByRecursion P ys
all_parts P [] ys h = (tt, h)
all_parts P (x ∷ xs) ys h = let r = all_parts P xs ys h.1 in ((h.0, r.0), r.1)

-- what all elements and those added have, all have after they were reordered
pub all_moved : {X : Type 0} (Extra P : X → Type 0) → ((x : X) → Extra x → P x) → (xs ys : List X) →
    IsReordered Extra xs ys → AllByRecursion P xs → AllByRecursion P ys
all_moved Extra P f [] ys r h = weaken Extra P f ys r
all_moved Extra P f (x ∷ xs) ys r h =
    let rest = all_parts P r.0 r.1 (all_moved Extra P f xs (r.0 ++ r.1) r.3 h.1) in
    subst (λ (zs : List _). AllByRecursion P zs) (sym r.2) (all_append P r.0 (x ∷ r.1) rest.0 (h.0, rest.1))

-- what all elements have after they were reordered, all had before
pub all_moved_back : {X : Type 0} (Extra P : X → Type 0) (xs ys : List X) → IsReordered Extra xs ys →
    AllByRecursion P ys → AllByRecursion P xs
all_moved_back Extra P [] ys r h = tt
all_moved_back Extra P (x ∷ xs) ys r h =
    let parts = all_parts P r.0 (x ∷ r.1) (subst (λ (zs : List _). AllByRecursion P zs) r.2 h) in
    (parts.1.0, all_moved_back Extra P xs (r.0 ++ r.1) r.3 (all_append P r.0 r.1 parts.0 parts.1.1))

-- ---- what passes a test that no further member passes

filter_none : {X : Type 0} (Extra : X → Type 0) (test : X → Bool) → ((x : X) → Extra x → test x ≡ false) →
    (xs : List X) → AllByRecursion Extra xs → filter test xs ≡ []
filter_none Extra test f [] h = refl
filter_none Extra test f (x ∷ xs) h = rw (f x h.0) (filter_none Extra test f xs h.1)

-- elements that pass a test which those added fail are reordered among themselves
pub kept : {X : Type 0} (Extra : X → Type 0) (test : X → Bool) → ((x : X) → Extra x → test x ≡ false) →
    (xs ys : List X) → IsReordered Extra xs ys → IsReordered NoMore (filter test xs) (filter test ys)
kept Extra test f [] ys r = subst (λ (zs : List _). AllByRecursion NoMore zs) (sym (filter_none Extra test f ys r)) tt
kept {X} Extra test f (x ∷ xs) ys r =
    let rest = kept Extra test f xs (r.0 ++ r.1) r.3 in
    let parts : filter test ys ≡ filter test r.0 ++ filter test (x ∷ r.1) = ap (filter test) r.2 ∙ filter-append test r.0 (x ∷ r.1) in
    let joined = filter-append test r.0 r.1 in
    elim (cases_Bool (test x)) [
      | inl t ↦
          let here : filter test (x ∷ r.1) ≡ x ∷ filter test r.1 = rw t in
          let first : filter test (x ∷ xs) ≡ x ∷ filter test xs = rw t in
          let goal : IsReordered NoMore (x ∷ filter test xs) (filter test ys) = (
            filter test r.0,
            filter test r.1,
            parts ∙ ap (λ (zs : List X). filter test r.0 ++ zs) here,
            subst (λ (zs : List X). IsReordered NoMore (filter test xs) zs) joined rest,
          ) in
          subst (λ (zs : List X). IsReordered NoMore zs (filter test ys)) (sym first) goal
      | inr n ↦
          let here : filter test (x ∷ r.1) ≡ filter test r.1 = rw n in
          let first : filter test (x ∷ xs) ≡ filter test xs = rw n in
          let whole : filter test ys ≡ filter test (r.0 ++ r.1) = parts ∙ ap (λ (zs : List X). filter test r.0 ++ zs) here ∙ sym joined in
          subst (λ (zs : List X). IsReordered NoMore zs (filter test ys)) (sym first)
          (subst (λ (zs : List X). IsReordered NoMore (filter test xs) zs) (sym whole) rest)
    ]

-- reordering without additions keeps the length
pub length_moved : {X : Type 0} (xs ys : List X) → IsReordered NoMore xs ys → length ys ≡ length xs
length_moved [] [] r = refl
length_moved [] (y ∷ ys) r = absurd r.0
length_moved (x ∷ xs) ys r =
    let rest = length_moved xs (r.0 ++ r.1) r.3 in
    omega (arith, rest, ap length r.2, length-append r.0 (x ∷ r.1), length-append r.0 r.1)

-- a list of at most one member has one order
pub short_same : {X : Type 0} (xs ys : List X) → IsReordered NoMore xs ys → length xs ≤ 1 → xs ≡ ys
short_same [] [] r l = refl
short_same [] (y ∷ ys) r l = absurd r.0
short_same (x ∷ []) ys r l = one r.0 r.1 r.2 r.3
  where
    one : (p q : List _) → ys ≡ p ++ x ∷ q → AllByRecursion NoMore (p ++ q) → x ∷ [] ≡ ys
    one [] [] e h = sym e
    one [] (z ∷ q) e h = absurd h.0
    one (z ∷ p) q e h = absurd h.0
short_same (x ∷ y ∷ xs) ys r l = absurd (omega arith)

-- ---- values and their strings

zip_parts : {X Y : Type 0} (R : X → Y → Type 0) (zs : List X) (p q : List Y) → AllZip R zs (p ++ q) →
    (a : List X) × (b : List X) × (zs ≡ a ++ b) × AllZip R a p × AllZip R b q
zip_parts R zs [] q h = ([], zs, refl, tt, h)
zip_parts R [] (y ∷ p) q h = elim h [ ]
zip_parts {X} R (z ∷ zs) (y ∷ p) q h =
    let r = zip_parts R zs p q h.1 in
    (z ∷ r.0, r.1, ap (λ (w : List X). z ∷ w) r.2, (h.0, r.3), r.4)

zip_join : {X Y : Type 0} (R : X → Y → Type 0) (a b : List X) (p q : List Y) → AllZip R a p → AllZip R b q → AllZip R (a ++ b) (p ++ q)
zip_join R [] b [] q g h = h
zip_join R [] b (y ∷ p) q g h = elim g [ ]
zip_join R (x ∷ a) b [] q g h = elim g [ ]
zip_join R (x ∷ a) b (y ∷ p) q g h = (g.0, zip_join R a b p q g.1 h)

-- the values of reordered strings are reordered
pub carry : {X Y : Type 0} (R : X → Y → Type 0) (Extra : Y → Type 0) (More : X → Type 0) →
    ((y : Y) → Extra y → (x : X) × R x y × More x) → (xs : List X) (ps qs : List Y) → AllZip R xs ps →
    IsReordered Extra ps qs → (ys : List X) × AllZip R ys qs × IsReordered More xs ys
carry R Extra More f [] [] [] h r = ([], tt, tt)
carry R Extra More f [] [] (q ∷ qs) h r =
    let first = f q r.0 in
    let rest = carry R Extra More f [] [] qs tt r.1 in
    (first.0 ∷ rest.0, (first.1, rest.1), (first.2, rest.2))
carry R Extra More f [] (p ∷ ps) qs h r = elim h [ ]
carry R Extra More f (x ∷ xs) [] qs h r = elim h [ ]
carry {X} {Y} R Extra More f (x ∷ xs) (p ∷ ps) qs h r =
    let rest = carry R Extra More f xs ps (r.0 ++ r.1) h.1 r.3 in
    let parts = zip_parts R rest.0 r.0 r.1 rest.1 in
    let zipped : AllZip R (parts.0 ++ x ∷ parts.1) (r.0 ++ p ∷ r.1) = zip_join R parts.0 (x ∷ parts.1) r.0 (p ∷ r.1)
    parts.3 (h.0, parts.4) in (
      parts.0 ++ x ∷ parts.1,
      subst (λ (s : List Y). AllZip R (parts.0 ++ x ∷ parts.1) s) (sym r.2) zipped,
      (parts.0, parts.1, refl, subst (λ (s : List X). IsReordered More xs s) parts.2 rest.2),
    )
