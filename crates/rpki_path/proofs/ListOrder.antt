-- Which list supersedes which: an order of those for one certificate.
use Rattle.std.specs.Prelude.{Contains}
use Rattle.std.proofs.Common.{◌≡◌, ◌↔◌, ◌⊎◌, ◌<◌, ℕ, zero, suc, List, [], ◌∷◌, map, sym, ◌∙◌, inl, inr, arith}
use Rattle.std.proofs.lemmas.Bool.{cases_eq, cases_order}
use Rattle.rpki_der.specs.Times.{second_number}
use Rattle.rpki_cert.specs.Certificates.{CertFields}
use Rattle.rpki_crl.specs.RevokedEntries.{Entry}
use Rattle.rpki_crl.specs.Lists.{CrlState}
use Rattle.rpki_path.specs.AskedLists.{Revokes, IsLater, SupersedesEqual, Supersedes}

-- ---- it can be told whether a list revokes the certificate

abbrev Told : Type 0 → Type 0
Told P = P ⊎ (P → ⊥)

contains_told : (ns : List ℕ) (n : ℕ) → Told (Contains ns n)
contains_told [] n = inr (λ h. absurd (omega (arith, h.1)))
contains_told (m ∷ ns) n = after (cases_eq m n) (contains_told ns n) where
  further : Contains (m ∷ ns) n → (m ≡ n → ⊥) → Contains ns n
  further (zero, low, is) not = absurd (not is)
  further (suc k, low, is) not = (k, omega arith, is)

  after : Told (m ≡ n) → Told (Contains ns n) → Told (Contains (m ∷ ns) n)
  after (inl e) _ = inl (0, omega arith, e)
  after (inr not) (inl h) = inl (suc h.0, omega (arith, h.1), h.2)
  after (inr not) (inr none) = inr (λ h. none (further h not))

revokes_told : (c : CertFields) (l : CrlState) → Told (Revokes c l)
revokes_told c l = contains_told (map (λ (e : Entry). e.serial) l.list.fields.revoked.entries) c.fields.serial

-- ---- the later list

later_through : (a b c : CrlState) → IsLater a b → IsLater b c → IsLater a c
later_through a b c (inl low) (inl lower) = inl (omega (arith, low, lower))
later_through a b c (inl low) (inr (same, due)) = inl (omega (arith, low, same))
later_through a b c (inr (same, due)) (inl low) = inl (omega (arith, low, same))
later_through a b c (inr (same, due)) (inr (also, before)) = inr (same ∙ also, omega (arith, due, before))

abbrev Ordered : ℕ → ℕ → Type 0
Ordered m n = (m ≡ n) ⊎ ((m < n) ⊎ (n < m))

-- of two lists neither of which is later the nextUpdate is one
one_next : (l k : CrlState) → (IsLater l k → ⊥) → (IsLater k l → ⊥) →
    second_number l.list.fields.next_update ≡ second_number k.list.fields.next_update
one_next l k not other =
    among (cases_order (second_number l.list.fields.this_update) (second_number k.list.fields.this_update))
    (cases_order (second_number l.list.fields.next_update) (second_number k.list.fields.next_update)) where
      among : Ordered (second_number l.list.fields.this_update) (second_number k.list.fields.this_update) →
          Ordered (second_number l.list.fields.next_update) (second_number k.list.fields.next_update) →
          second_number l.list.fields.next_update ≡ second_number k.list.fields.next_update
      among (inl same) (inl due) = due
      among (inl same) (inr (inl low)) = absurd (other (inr (sym same, low)))
      among (inl same) (inr (inr low)) = absurd (not (inr (same, low)))
      among (inr (inl low)) _ = absurd (other (inl low))
      among (inr (inr low)) _ = absurd (not (inl low))

-- ---- the order

module _ (cert : CertFields) where
  -- one that supersedes another supersedes what that one does
  equal_through : (a b c : CrlState) → SupersedesEqual cert a b → SupersedesEqual cert b c → SupersedesEqual cert a c
  equal_through a b c (inl (does, not)) (inl (also, none)) = absurd (not also)
  equal_through a b c (inl (does, not)) (inr (both, later)) = inl (does, λ r. not (both.1 r))
  equal_through a b c (inr (both, later)) (inl (does, not)) = inl (both.1 does, not)
  equal_through a b c (inr (both, later)) (inr (also, last)) =
      inr (((λ r. also.0 (both.0 r)), (λ r. both.1 (also.1 r))), later_through a b c later last)

  pub through : (a b c : CrlState) → Supersedes cert a b → Supersedes cert b c → Supersedes cert a c
  through a b c (inl low) (inl lower) = inl (omega (arith, low, lower))
  through a b c (inl low) (inr (same, equal)) = inl (omega (arith, low, same))
  through a b c (inr (same, equal)) (inl low) = inl (omega (arith, low, same))
  through a b c (inr (same, equal)) (inr (also, more)) = inr (same ∙ also, equal_through a b c equal more)

  -- none supersedes itself
  pub not_itself : (l : CrlState) → Supersedes cert l l → ⊥
  not_itself l (inl low) = absurd (omega (arith, low))
  not_itself l (inr (same, inl (does, not))) = not does
  not_itself l (inr (same, inr (both, inl low))) = absurd (omega (arith, low))
  not_itself l (inr (same, inr (both, inr (one, low)))) = absurd (omega (arith, low))

  -- what is asked of both comes out the same
  pub record Alike (l k : CrlState) : Type 0 where
    pub revokes : Revokes cert l ↔ Revokes cert k
    pub next_update : second_number l.list.fields.next_update ≡ second_number k.list.fields.next_update

  equal_alike : (l k : CrlState) → (SupersedesEqual cert l k → ⊥) → (SupersedesEqual cert k l → ⊥) → Alike l k
  equal_alike l k not other = after (revokes_told cert l) (revokes_told cert k) where
    agreed : (Revokes cert l ↔ Revokes cert k) → Alike l k
    agreed both = record {
      revokes = both;
      next_update = one_next l k (λ later. not (inr (both, later)))
          (λ later. other (inr ((both.1, both.0), later)));
    }

    after : Told (Revokes cert l) → Told (Revokes cert k) → Alike l k
    after (inl does) (inl also) = agreed ((λ r. also), (λ r. does))
    after (inl does) (inr none) = absurd (not (inl (does, none)))
    after (inr none) (inl does) = absurd (other (inl (does, none)))
    after (inr none) (inr neither) = agreed ((λ r. absurd (none r)), (λ r. absurd (neither r)))

  -- lists that don't supersede one another are alike
  pub alike : (l k : CrlState) → (Supersedes cert l k → ⊥) → (Supersedes cert k l → ⊥) → Alike l k
  alike l k not other =
      among (cases_order l.list.fields.extensions.crl_number k.list.fields.extensions.crl_number) where
        among : Ordered l.list.fields.extensions.crl_number k.list.fields.extensions.crl_number → Alike l k
        among (inl e) = equal_alike l k (λ more. not (inr (e, more))) (λ more. other (inr (sym e, more)))
        among (inr (inl low)) = absurd (other (inl low))
        among (inr (inr low)) = absurd (not (inl low))
