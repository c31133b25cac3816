-- Which certificates are looked at below an issuer, and whether that is in a circle.
use Rattle.std.specs.Prelude.{Bool, Contains}
use Rattle.std.proofs.Common.{◌≡◌, ◌<◌, ℕ, List, [], ◌∷◌, ◌++◌, length, refl, sym, ap, subst, ◌∙◌, inl, inr}
use Rattle.std.proofs.lemmas.List.Elements.{Contains-push_cases}
use Rattle.rpki_der.specs.Values.{IsUnambiguous}
use Rattle.rpki_der.proofs.Formats.{one_meant}
use Rattle.rpki_cert.specs.Certificates.{CertFields, IsCertificate}
use Rattle.rpki_folder.specs.Folders.{string_at}
use Rattle.rpki_folder.specs.Walks.{StandsAt, IsLastOf, IsNamedUnder, IsRepeated, EndsNoCircle, IsLookedAt}

module _ (top : CertFields) (certs : List (List ℕ)) where
  -- the certificate at the place that was put behind the others is the last
  pub last_pushed : (above : List ℕ) (place : ℕ) (c : CertFields) → StandsAt certs place c →
      IsLastOf top certs (above ++ place ∷ []) c
  last_pushed [] place c h = h
  last_pushed (p ∷ []) place c h = h
  last_pushed (p ∷ q ∷ more) place c h = last_pushed (q ∷ more) place c h

  -- the last stands there
  pub last_there : (above : List ℕ) (place : ℕ) (c : CertFields) → IsLastOf top certs (above ++ place ∷ []) c →
      StandsAt certs place c
  last_there [] place c h = h
  last_there (p ∷ []) place c h = h
  last_there (p ∷ q ∷ more) place c h = last_there (q ∷ more) place c h

  -- each place is one of the folder, with one more
  pub inside_pushed : (above : List ℕ) (place : ℕ) → ((p : ℕ) → Contains above p → p < length certs) →
      place < length certs → (p : ℕ) → Contains (above ++ place ∷ []) p → p < length certs
  inside_pushed above place inside low p among = elim (Contains-push_cases above place p among) [
    | inl h ↦ inside p h
    | inr is ↦ subst (λ (q : ℕ). q < length certs) is low
  ]

  module _ (law : IsUnambiguous IsCertificate) where
    -- there is one last
    pub one_last : (above : List ℕ) (c d : CertFields) → IsLastOf top certs above c → IsLastOf top certs above d → c ≡ d
    one_last [] c d a b = a ∙ sym b
    one_last (p ∷ []) c d a b = one_meant IsCertificate law c d (string_at certs p) a b
    one_last (p ∷ q ∷ more) c d a b = one_last (q ∷ more) c d a b

    module _ (names : Bool) (above : List ℕ) (issuer : CertFields) (is_last : IsLastOf top certs above issuer) where
      module _ (admits : List ℕ → ℕ → Type 0) (place : ℕ) where
        -- what is let in below the issuer, and named there, is looked at
        pub looked_at : EndsNoCircle names top certs above →
            admits above place × IsNamedUnder names issuer certs place →
            IsLookedAt names admits top certs above place
        looked_at none h = record {
          admitted = h.0;
          named = λ other last. subst (λ (d : CertFields). IsNamedUnder names d certs place)
              (one_last above issuer other is_last last) h.1;
          no_circle = none;
        }

        -- and nothing else
        pub let_in : IsLookedAt names admits top certs above place →
            admits above place × IsNamedUnder names issuer certs place
        let_in l = (l.admitted, l.named issuer is_last)

      -- the issuer at the end of a circle
      pub in_circle : (before : List ℕ) (place : ℕ) → above ≡ before ++ place ∷ [] →
          IsRepeated names top certs before issuer → EndsNoCircle names top certs above → ⊥
      in_circle before place is repeated none =
          let there = last_there before place issuer (subst (λ (l : List ℕ). IsLastOf top certs l issuer) is is_last) in
          none before place is issuer there repeated

      same_end : (xs ys : List ℕ) (x y : ℕ) → xs ++ x ∷ [] ≡ ys ++ y ∷ [] → (xs ≡ ys) × (x ≡ y)
      same_end [] [] x y e = (refl, cc e)
      same_end [] (z ∷ []) x y e = absurd (cc e)
      same_end [] (z ∷ w ∷ ys) x y e = absurd (cc e)
      same_end (z ∷ []) [] x y e = absurd (cc e)
      same_end (z ∷ w ∷ xs) [] x y e = absurd (cc e)
      same_end (z ∷ xs) (w ∷ ys) x y e =
          let heads : z ≡ w = cc e in
          let tails : xs ++ x ∷ [] ≡ ys ++ y ∷ [] = cc e in
          let r = same_end xs ys x y tails in
          (ap (λ (n : ℕ). n ∷ xs) heads ∙ ap (λ (l : List ℕ). w ∷ l) r.0, r.1)

      -- one that isn't
      pub in_none : (before : List ℕ) (place : ℕ) → above ≡ before ++ place ∷ [] →
          (IsRepeated names top certs before issuer → ⊥) → EndsNoCircle names top certs above
      in_none before place is never = λ others last same c there repeated.
          let e = same_end before others place last (sym is ∙ same) in
          let here = last_there before place issuer (subst (λ (l : List ℕ). IsLastOf top certs l issuer) is is_last) in
          let one : c ≡ issuer = one_meant IsCertificate law c issuer (string_at certs place)
          (subst (λ (p : ℕ). StandsAt certs p c) (sym e.1) there) here in
          never (subst (λ (d : CertFields). IsRepeated names top certs before d) one
          (subst (λ (l : List ℕ). IsRepeated names top certs l c) (sym e.0) repeated))

    -- at the top there is none
    no_end : (before : List ℕ) (place : ℕ) → [] ≡ before ++ place ∷ [] → ⊥
    no_end [] place e = absurd (cc e)
    no_end (p ∷ before) place e = absurd (cc e)

    pub none_at_top : (names : Bool) (above : List ℕ) → above ≡ [] → EndsNoCircle names top certs above
    none_at_top names above empty = λ before place is c there repeated. no_end before place (sym empty ∙ is)
