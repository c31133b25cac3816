-- The content of an OBJECT IDENTIFIER, both ways.
use Rattle.std.proofs.Common.{◌≡◌, ℕ, ◌<◌, ◌≤◌, Bool, true, false, not, ◌&&◌, eqb, ltb, List, [], ◌∷◌, ◌++◌, Some}
use Rattle.std.proofs.Common.{refl, ap, subst, ◌⊎◌, inl, inr, arith}
use Rattle.std.proofs.lemmas.Bool.{cases_Bool, ltb-true, ltb-false, lt-ltb, le-ltb, eqb-true, and_parts}
use Rattle.rpki_der.specs.Reading.{content, Reads, Inside}
use Rattle.rpki_der.specs.Primitives.Reading.{ends_oid, is_oid, oid_of, oid_at}
use Rattle.rpki_der.proofs.Lists.{heads, no_last}
use Rattle.rpki_der.proofs.Octets.{if_some}
use Rattle.rpki_der.proofs.Readings.{content_reads, same_reads}
use Rattle.rpki_der.specs.Primitives.{IsOid, IsObjectIdentifier}
use Rattle.rpki_der.specs.Tags.{OBJECT_IDENTIFIER}

-- an octet of 80 or more stands at the end
abbrev EndsHigh : List ℕ → Type 0
EndsHigh x = (z : List ℕ) × (k : ℕ) × (x ≡ z ++ k ∷ []) × (128 ≤ k)

-- what stands before an 80, behind octets that have ended or not
abbrev Before : Bool → List ℕ → Type 0
Before ended x = ((ended ≡ false) × (x ≡ [])) ⊎ EndsHigh x

abbrev IsLast : List ℕ → Type 0
IsLast id = (front : List ℕ) × (last : ℕ) × (id ≡ front ++ last ∷ []) × (last < 128)

last_of : (b : Bool) (n : ℕ) (id : List ℕ) → ends_oid b (n ∷ id) ≡ true → IsLast (n ∷ id)
last_of b n [] e = ([], n, refl, ltb-true n 128 (and_parts _ _ e).1)
last_of b n (m ∷ id) e = let h = last_of (ltb n 128) m id (and_parts _ _ e).1 in (n ∷ h.0, h.1, ap (λ (x : List ℕ). n ∷ x) h.2, h.3)

not_both : (b : Bool) → not (b && true) ≡ true → b ≡ false
not_both true e = absurd cc
not_both false e = refl

no_padding : (b : Bool) (id x y : List ℕ) → ends_oid b id ≡ true → id ≡ x ++ 128 ∷ y → Before b x
no_padding b [] [] y e is = absurd cc
no_padding b [] (h ∷ x) y e is = absurd cc
no_padding b (n ∷ id) [] y e is =
    let s : n ≡ 128 = (heads _ _ _ _ is).0 in
    let a = and_parts (not (b && eqb n 128)) (ends_oid (ltb n 128) id) e in
    inl (not_both b (rw s at a.0), refl)
no_padding b (n ∷ id) (h ∷ x) y e is =
    let s = heads _ _ _ _ is in
    elim (no_padding (ltb n 128) id x y (and_parts _ _ e).1 s.1) [
      | inl g ↦ let high : 128 ≤ n = ltb-false n 128 g.0 in inr ([], h, ap (λ (t : List ℕ). h ∷ t) g.1, omega (arith, s.0))
      | inr g ↦ inr (h ∷ g.0, g.1, ap (λ (t : List ℕ). h ∷ t) g.2, g.3)
    ]

-- a content that passes the test is one of an OBJECT IDENTIFIER
pub oid_takes : (id : List ℕ) → is_oid id ≡ true → IsOid id
oid_takes [] e = absurd cc
oid_takes (n ∷ id) e =
    let l = last_of true n id e in
    record {
      front = l.0;
      last = l.1;
      is = l.2;
      ends = l.3;
      no_padding = λ x y is. elim (no_padding true (n ∷ id) x y e is) [ inl g ↦ absurd cc | inr g ↦ g ];
    }

next_before : (h : ℕ) (x : List ℕ) → EndsHigh (h ∷ x) → Before (ltb h 128) x
next_before h x (([]), k, is, high) = let s = heads _ _ _ _ is in inl (le-ltb h 128 (omega (arith, s.0)), s.1)
next_before h x ((z ∷ zs), k, is, high) = let s = heads _ _ _ _ is in inr (zs, k, s.1, high)

not_now : (b : Bool) (h : ℕ) (id : List ℕ) → (h ≡ 128 → Before b []) → not (b && eqb h 128) ≡ true
not_now false h id p = refl
not_now true h id p =
    elim (cases_Bool (eqb h 128)) [
      | inl y ↦ elim (p (eqb-true h 128 y)) [ inl g ↦ absurd cc | inr g ↦ absurd (no_last g.0 g.1 g.2) ]
      | inr n ↦ rw n refl
    ]

ends_again : (b : Bool) (id front : List ℕ) (last : ℕ) → id ≡ front ++ last ∷ [] → last < 128 →
    ((x y : List ℕ) → id ≡ x ++ 128 ∷ y → Before b x) → ends_oid b id ≡ true
ends_again b [] [] last is low pad = absurd cc
ends_again b [] (h ∷ front) last is low pad = absurd cc
ends_again b (n ∷ id) [] last is low pad =
    let s = heads _ _ _ _ is in
    let here = not_now b n id (λ e. pad [] id (ap (λ (k : ℕ). k ∷ id) e)) in
    rw (here, s.1, lt-ltb n 128 (omega (arith, s.0))) refl
ends_again b (n ∷ id) (h ∷ front) last is low pad =
    let s = heads _ _ _ _ is in
    let here = not_now b n id (λ e. pad [] id (ap (λ (k : ℕ). k ∷ id) e)) in
    rw here (ends_again (ltb n 128) id front last s.1 low (λ x y e. later x (pad (n ∷ x) y (ap (λ (t : List ℕ). n ∷ t) e))))
  where
    later : (x : List ℕ) → Before b (n ∷ x) → Before (ltb n 128) x
    later x h = elim h [ inl g ↦ absurd cc | inr g ↦ next_before n x g ]

-- the content of an OBJECT IDENTIFIER passes the test
pub oid_again : (id : List ℕ) → IsOid id → is_oid id ≡ true
oid_again [] o = absurd (no_last o.front o.last o.is)
oid_again (n ∷ id) o = ends_again true (n ∷ id) o.front o.last o.is o.ends (λ x y e. inr (o.no_padding x y e))

abbrev IsOidContent : List ℕ → List ℕ → Type 0
IsOidContent id c = (c ≡ id) × IsOid id

whole_takes : (c id : List ℕ) → oid_of c ≡ Some id → IsOidContent id c
whole_takes c id e = let g = if_some (is_oid c) c id e in (g.1, subst IsOid g.1 (oid_takes c g.0))

-- an OBJECT IDENTIFIER is read as it is encoded
pub oid_reads : Reads oid_at IsObjectIdentifier
unfolding oid_at
oid_reads =
    same_reads (content OBJECT_IDENTIFIER oid_of) (Inside OBJECT_IDENTIFIER IsOidContent) IsObjectIdentifier
    (content_reads OBJECT_IDENTIFIER oid_of IsOidContent
    (record { takes = λ c id low e. whole_takes c id e; again = λ id c s. rw (s.0, oid_again id s.1) refl }))
    (λ id text s. record { enc = rw (← s.1.0) s.2; oid = s.1.1 })
    (λ id text s. (id, (refl, s.oid), s.enc))
