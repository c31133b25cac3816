-- It can be told whether two certificates are of one entity, and whether a path has such issuers.
use Rattle.std.specs.Prelude.{Bool, true, false}
use Rattle.std.proofs.Common.{◌≡◌, ◌⊎◌, ◌<◌, ℕ, zero, suc, List, [], ◌∷◌, refl, ap, subst, ◌∙◌, inl, inr, arith}
use Rattle.std.proofs.lemmas.Bool.{cases_eq}
use Rattle.rpki_parts.specs.Keys.{KeyFields}
use Rattle.rpki_parts.specs.declared.key.PublicKeyFormat.{PublicKeyFormat}
use Rattle.rpki_parts.specs.declared.key.PublicKeyFormat.TheVariants.{Rsa, EcdsaP256}
use Rattle.rpki_cert.specs.Certificates.{CertFields}
use Rattle.rpki_path.specs.Paths.{Path, certificate_at}
use Rattle.rpki_path.specs.Repeats.{AreOneEntity}

abbrev Decided : Type 0 → Type 0
Decided P = P ⊎ (P → ⊥)

-- ---- octets, keys, names

same_octets : (xs ys : List ℕ) → Decided (xs ≡ ys)
same_octets [] [] = inl refl
same_octets [] (y ∷ ys) = inr (λ e. absurd (cc e))
same_octets (x ∷ xs) [] = inr (λ e. absurd (cc e))
same_octets (x ∷ xs) (y ∷ ys) = after (cases_eq x y) (same_octets xs ys) where
  after : Decided (x ≡ y) → Decided (xs ≡ ys) → Decided (x ∷ xs ≡ y ∷ ys)
  after (inl e) (inl f) = inl (cc (e, f))
  after (inl e) (inr not) = inr (λ g. not (cc g))
  after (inr not) _ = inr (λ g. not (cc g))

same_format : (a b : PublicKeyFormat) → Decided (a ≡ b)
same_format Rsa Rsa = inl refl
same_format Rsa EcdsaP256 = inr (λ e. absurd (cc e))
same_format EcdsaP256 Rsa = inr (λ e. absurd (cc e))
same_format EcdsaP256 EcdsaP256 = inl refl

same_key : (k l : KeyFields) → Decided (k ≡ l)
same_key k l = after (same_format k.format l.format) (same_octets k.bits l.bits) where
  after : Decided (k.format ≡ l.format) → Decided (k.bits ≡ l.bits) → Decided (k ≡ l)
  after (inl e) (inl f) =
      inl (ap (λ (a : PublicKeyFormat). let x : KeyFields = record { format = a; bits = k.bits } in x) e
      ∙ ap (λ (b : List ℕ). let x : KeyFields = record { format = l.format; bits = b } in x) f)
  after (inl e) (inr not) = inr (λ g. not (ap (λ (k : KeyFields). k.bits) g))
  after (inr not) _ = inr (λ g. not (ap (λ (k : KeyFields). k.format) g))

same_entity : (names : Bool) (c d : CertFields) → Decided (AreOneEntity names c d)
same_entity names c d = after names (same_key c.fields.key d.fields.key)
    (same_octets c.fields.subject d.fields.subject) where
      after : (names : Bool) → Decided (c.fields.key ≡ d.fields.key) → Decided (c.fields.subject ≡ d.fields.subject) →
          Decided (AreOneEntity names c d)
      after names (inr not) _ = inr (λ one. not one.0)
      after true (inl e) (inl f) = inl (e, λ asks. f)
      after true (inl e) (inr not) = inr (λ one. not (one.1 refl))
      after false (inl e) _ = inl (e, λ asks. absurd (cc asks))

-- ---- paths

-- two issuers of one entity, the second one at a place below n
pub record Repeat (names : Bool) (p : Path) (n : ℕ) : Type 0 where
  pub first : ℕ
  pub second : ℕ
  pub before : first < second
  pub within : second < n
  pub one : AreOneEntity names (certificate_at p first) (certificate_at p second)

module _ (names : Bool) (p : Path) where
  -- one of the entity of the certificate at place j, at a place below n
  abbrev Before : ℕ → ℕ → Type 0
  Before j n = (i : ℕ) × (i < n) × AreOneEntity names (certificate_at p i) (certificate_at p j)

  seek : (j n : ℕ) → Before j n ⊎ ((i : ℕ) → i < n → AreOneEntity names (certificate_at p i) (certificate_at p j) → ⊥)
  seek j zero = inr (λ i low. absurd (omega (arith, low)))
  seek j (suc n) = after (seek j n) (same_entity names (certificate_at p n) (certificate_at p j)) where
    after : Before j n ⊎ ((i : ℕ) → i < n → AreOneEntity names (certificate_at p i) (certificate_at p j) → ⊥) →
        Decided (AreOneEntity names (certificate_at p n) (certificate_at p j)) →
        Before j (suc n) ⊎ ((i : ℕ) → i < suc n → AreOneEntity names (certificate_at p i) (certificate_at p j) →
        ⊥)
    after (inl (i, low, one)) _ = inl (i, omega (arith, low), one)
    after (inr none) (inl one) = inl (n, omega arith, one)
    after (inr none) (inr not) = inr (λ i low one. elim (cases_eq i n) [
      | inl e ↦ not (subst (λ (k : ℕ). AreOneEntity names (certificate_at p k) (certificate_at p j)) e one)
      | inr other ↦ let less : i < n = omega (arith, low, other) in none i less one
    ])

  -- a path has such issuers or it has none
  pub told_repeat : (n : ℕ) →
      Repeat names p n ⊎
      ((i j : ℕ) → i < j → j < n → AreOneEntity names (certificate_at p i) (certificate_at p j) → ⊥)
  told_repeat zero = inr (λ i j before low. absurd (omega (arith, low)))
  told_repeat (suc n) = after (told_repeat n) (seek n n) where
    after : Repeat names p n ⊎
        ((i j : ℕ) → i < j → j < n → AreOneEntity names (certificate_at p i) (certificate_at p j) → ⊥) →
        Before n n ⊎ ((i : ℕ) → i < n → AreOneEntity names (certificate_at p i) (certificate_at p n) → ⊥) →
        Repeat names p (suc n) ⊎
        ((i j : ℕ) → i < j → j < suc n → AreOneEntity names (certificate_at p i) (certificate_at p j) → ⊥)
    after (inl r) _ = inl
        (record {
          first = r.first;
          second = r.second;
          before = r.before;
          within = omega (arith, r.within);
          one =
              r.one;
        })
    after (inr none) (inl (i, low, one)) =
        inl (record { first = i; second = n; before = low; within = omega arith; one = one })
    after (inr none) (inr last_none) = inr (λ i j before low one. elim (cases_eq j n) [
      | inl e ↦
          let less : i < n = omega (arith, before, e) in
          last_none i less (subst (λ (k : ℕ). AreOneEntity names (certificate_at p i) (certificate_at p k)) e one)
      | inr other ↦ let less : j < n = omega (arith, low, other) in none i j before less one
    ])
