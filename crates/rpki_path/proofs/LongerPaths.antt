-- Paths with further members below their last, and what is true of their places.
use Rattle.std.specs.List.{AllByRecursion, AllZip}
use Rattle.std.proofs.Common.{◌≡◌, ◌⊎◌, ◌↔◌, ◌+◌, ◌<◌, ◌≤◌, ℕ, List, [], ◌∷◌, ◌++◌, length, map, get_or, refl, sym}
use Rattle.std.proofs.Common.{ap, subst, ◌∙◌, inl, inr, arith}
use Rattle.std.proofs.Math.Nat.{eq-or-lt_of_le}
use Rattle.std.proofs.lemmas.List.{map-append, length-map, length-append}
use Rattle.std.proofs.Math.ListN.{get_or-append}
use Rattle.std.proofs.Math.Seq.{get_or-append_seam}
use Rattle.rpki_blocks.specs.Resources.{Resources, missing, inherit, blocks}
use Rattle.rpki_blocks.specs.IssuedSets.{IsListed, Gets}
use Rattle.rpki_cert.specs.Certificates.{CertFields}
use Rattle.rpki_path.specs.Paths.{Member, Path, last, certificate_at, NumberKind, PassesOn, Holds}

-- ---- places

-- the path with one member more, and those behind it
abbrev pub extended : Path → Member → List Member → Path
extended p m more = record { anchor = p.anchor; below = p.below ++ m ∷ more }

abbrev certs : Path → List CertFields
certs p = p.anchor ∷ map (λ (x : Member). x.cert) p.below

module _ (p : Path) (m : Member) (more : List Member) where
  certs_extended : certs (extended p m more) ≡ certs p ++ m.cert ∷ map (λ (x : Member). x.cert) more
  certs_extended = ap (λ (cs : List CertFields). p.anchor ∷ cs) (map-append (λ (x : Member). x.cert) p.below (m ∷ more))

  long : length (certs p) ≡ last p + 1
  long = omega (arith, length-map p.below (λ (x : Member). x.cert))

  -- the places of the shorter path
  pub above : (i : ℕ) → i ≤ last p → certificate_at (extended p m more) i ≡ certificate_at p i
  above i h =
      let low : i < length (certs p) = omega (arith, long) in
      ap (λ (cs : List CertFields). get_or cs i p.anchor) certs_extended
      ∙ get_or-append (certs p) (m.cert ∷ map (λ (x : Member). x.cert) more) p.anchor i low

  -- the place below them
  pub there : certificate_at (extended p m more) (last p + 1) ≡ m.cert
  there =
      ap (λ (cs : List CertFields). get_or cs (last p + 1) p.anchor) certs_extended
      ∙ ap (λ (i : ℕ). get_or (certs p ++ m.cert ∷ map (λ (x : Member). x.cert) more) i p.anchor) (sym long)
      ∙ get_or-append_seam (certs p) m.cert (map (λ (x : Member). x.cert) more) p.anchor

-- the last place of the longer path is one further
pub last_extended : (p : Path) (m : Member) → last (extended p m []) ≡ last p + 1
last_extended p m = length-append p.below (m ∷ [])

-- ---- members and those above them

module _ (R : CertFields → CertFields → Type 0) (p : Path) (m : Member) where
  -- each member of a path stands so below the one above it
  abbrev pub AllBelow : Path → Type 0
  AllBelow q = (i : ℕ) → i < last q → R (certificate_at q i) (certificate_at q (i + 1))

  at_place : AllBelow p → R (certificate_at p (last p)) m.cert → (i : ℕ) → (i ≡ last p) ⊎ (i < last p) →
      R (certificate_at (extended p m []) i) (certificate_at (extended p m []) (i + 1))
  at_place all h i (inl e) =
      let same : last p ≤ last p = omega arith in
      subst (λ (j : ℕ). R (certificate_at (extended p m []) j) (certificate_at (extended p m []) (j + 1))) (sym e)
      (subst (λ (c : CertFields). R (certificate_at (extended p m []) (last p)) c) (sym (there p m []))
      (subst (λ (c : CertFields). R c m.cert) (sym (above p m [] (last p) same)) h))
  at_place all h i (inr low) =
      let here : i ≤ last p = omega arith in
      let next : i + 1 ≤ last p = omega arith in
      subst (λ (c : CertFields). R (certificate_at (extended p m []) i) c) (sym (above p m [] (i + 1) next))
      (subst (λ (c : CertFields). R c (certificate_at p (i + 1))) (sym (above p m [] i here)) (all i low))

  -- each member of the longer path does, where those of the path do, and the one below the last
  pub all_below_more : AllBelow p → R (certificate_at p (last p)) m.cert → AllBelow (extended p m [])
  all_below_more all h = λ i low. let here : i ≤ last p = omega (arith, last_extended p m) in
      at_place all h i (eq-or-lt_of_le here)

  -- where each of the longer path does, those of the path do, and the one below the last
  pub all_below_fewer : AllBelow (extended p m []) → AllBelow p × R (certificate_at p (last p)) m.cert
  all_below_fewer all = (
    (λ i h.
        let here : i ≤ last p = omega arith in
        let next : i + 1 ≤ last p = omega arith in
        let low : i < last (extended p m []) = omega (arith, last_extended p m) in
        subst (λ (c : CertFields). R (certificate_at p i) c) (above p m [] (i + 1) next)
        (subst (λ (c : CertFields). R c (certificate_at (extended p m []) (i + 1))) (above p m [] i here) (all i low))),
    (let same : last p ≤ last p = omega arith in
        let low : last p < last (extended p m []) = omega (arith, last_extended p m) in
        subst (λ (c : CertFields). R (certificate_at p (last p)) c) (there p m [])
        (subst (λ (c : CertFields). R c (certificate_at (extended p m []) (last p + 1)))
        (above p m [] (last p) same) (all (last p) low))),
  )

-- ---- numbers

module _ (p : Path) (m : Member) (more : List Member) (k : NumberKind) (n : ℕ) where
  -- what a member holds doesn't depend on members behind it
  pub holds_above : (i : ℕ) → i ≤ last p → Holds p i k n ↔ Holds (extended p m more) i k n
  holds_above i h = (
    (λ held. record {
      listed = held.listed;
      passed_on = λ j low high. let short : j ≤ last p = omega arith in
          subst (λ (c : CertFields). PassesOn c k n) (sym (above p m more j short)) (held.passed_on j low high);
    }),
    (λ held. record {
      listed = held.listed;
      passed_on = λ j low high. let short : j ≤ last p = omega arith in
          subst (λ (c : CertFields). PassesOn c k n) (above p m more j short) (held.passed_on j low high);
    }),
  )

  holds_then : Holds p (last p) k n → PassesOn m.cert k n → (j : ℕ) → 1 ≤ j → (j ≡ last p + 1) ⊎ (j < last p + 1) →
      PassesOn (certificate_at (extended p m more) j) k n
  holds_then held passes j low (inl e) = subst (λ (i : ℕ). PassesOn (certificate_at (extended p m more) i) k n)
      (sym e) (subst (λ (c : CertFields). PassesOn c k n) (sym (there p m more)) passes)
  holds_then held passes j low (inr h) =
      let short : j ≤ last p = omega arith in
      subst (λ (c : CertFields). PassesOn c k n) (sym (above p m more j short)) (held.passed_on j low short)

  -- the member below the last holds what the last holds, where it passes it on
  pub holds_there : Holds (extended p m more) (last p + 1) k n ↔ (Holds p (last p) k n × PassesOn m.cert k n)
  holds_there = (
    (λ held. (
      record {
        listed = held.listed;
        passed_on = λ j low high. let further : j ≤ last p + 1 = omega arith in
            subst (λ (c : CertFields). PassesOn c k n) (above p m more j high) (held.passed_on j low further);
      },
      (let low : 1 ≤ last p + 1 = omega arith in let high : last p + 1 ≤ last p + 1 = omega arith in
          subst (λ (c : CertFields). PassesOn c k n) (there p m more) (held.passed_on (last p + 1) low high)),
    )),
    (λ both. record {
      listed = both.0.listed;
      passed_on = λ j low high. holds_then both.0 both.1 j low
          (eq-or-lt_of_le high);
    }),
  )

-- what is issued is what is held and passed on
pub gets_passed : (held : ℕ → Type 0) (r : Resources) (n : ℕ) →
    Gets held r n ↔ (held n × (IsListed n r ⊎ (r ≡ inherit)))
gets_passed held missing n = ((λ h. absurd h), (λ h. elim h.1 [ inl x ↦ absurd x | inr e ↦ absurd (cc e) ]))
gets_passed held inherit n = ((λ h. (h, inr refl)), (λ h. h.0))
gets_passed held (blocks chain) n =
    ((λ h. (h.1, inl h.0)), (λ h. elim h.1 [ inl x ↦ (x, h.0) | inr e ↦ absurd (cc e) ]))

-- ---- lists

module _ {A B : Type 0} (R : A → B → Type 0) where
  -- pairs that are related go on with one that is
  pub zip_more : (xs : List A) (ys : List B) (x : A) (y : B) → AllZip R xs ys → R x y →
      AllZip R (xs ++ x ∷ []) (ys ++ y ∷ [])
  zip_more [] [] x y all r = (r, tt)
  zip_more [] (b ∷ ys) x y all r = absurd all
  zip_more (a ∷ xs) [] x y all r = absurd all
  zip_more (a ∷ xs) (b ∷ ys) x y all r = (all.0, zip_more xs ys x y all.1 r)

  -- the items that stand with those before an item, and with it
  pub record Parted (xs : List A) (before : List B) (y : B) : Type 0 where
    pub front : List A
    pub item : A
    pub more : List A
    pub parts : xs ≡ front ++ item ∷ more
    pub fronts : AllZip R front before
    pub items : R item y

  -- what is related to a list that is cut is cut too
  pub parted : (xs : List A) (before : List B) (y : B) (after : List B) → AllZip R xs (before ++ y ∷ after) →
      Parted xs before y
  parted [] [] y after all = absurd all
  parted [] (b ∷ before) y after all = absurd all
  parted (a ∷ xs) [] y after all = record { front = []; item = a; more = xs; parts = refl; fronts = tt; items = all.0 }
  parted (a ∷ xs) (b ∷ before) y after all =
      let inner = parted xs before y after all.1 in
      record {
        front = a ∷ inner.front;
        item = inner.item;
        more = inner.more;
        parts = ap (λ (l : List A). a ∷ l) inner.parts;
        fronts = (all.0, inner.fronts);
        items = inner.items;
      }

  -- where an item stands with one alone, a list does
  pub zip_one : ((x y : A) (b : B) → R x b → R y b → x ≡ y) → (xs ys : List A) (bs : List B) → AllZip R xs bs →
      AllZip R ys bs → xs ≡ ys
  zip_one one [] [] bs p q = refl
  zip_one one [] (y ∷ ys) [] p q = absurd q
  zip_one one [] (y ∷ ys) (b ∷ bs) p q = absurd p
  zip_one one (x ∷ xs) [] [] p q = absurd p
  zip_one one (x ∷ xs) [] (b ∷ bs) p q = absurd q
  zip_one one (x ∷ xs) (y ∷ ys) [] p q = absurd p
  zip_one one (x ∷ xs) (y ∷ ys) (b ∷ bs) p q = ap (λ (z : A). z ∷ xs) (one x y b p.0 q.0) ∙
      ap (λ (l : List A). y ∷ l) (zip_one one xs ys bs p.1 q.1)

module _ {X : Type 0} (P : X → Type 0) where
  -- what all elements and one more have, the longer list's elements have
  pub all_more : (xs : List X) (x : X) → AllByRecursion P xs → P x → AllByRecursion P (xs ++ x ∷ [])
  all_more [] x all h = (h, tt)
  all_more (y ∷ xs) x all h = (all.0, all_more xs x all.1 h)

  -- what all elements have, one of them has
  pub all_at : (xs : List X) (x : X) (more : List X) → AllByRecursion P (xs ++ x ∷ more) → P x
  all_at [] x more all = all.0
  all_at (y ∷ xs) x more all = all_at xs x more all.1
