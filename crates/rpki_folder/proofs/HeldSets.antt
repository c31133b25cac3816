-- What the members of a path hold are sets.
use Rattle.std.proofs.Common.{◌≡◌, ◌≤◌, ℕ, true, max, min, List, [], ◌∷◌, ◌++◌, refl, sym, subst, inl, inr}
use Rattle.std.proofs.Common.{append_assoc, arith}
use Rattle.std.proofs.lemmas.List.{append-nil}
use Rattle.rpki_blocks.specs.Sets.{Block, between, is_in}
use Rattle.rpki_blocks.specs.Resources.{Resources, missing, inherit, blocks}
use Rattle.rpki_blocks.specs.IssuedSets.{IsListed, IsIssued}
use Rattle.rpki_blocks.proofs.Sets.{in_head, in_tail, in_cases}
use Rattle.rpki_blocks.proofs.ChainWalks.{in_append_cases, in_append_left, in_append_right}
use Rattle.rpki_cert.specs.Certificates.{CertFields}
use Rattle.rpki_cert.specs.Verification.{Context, HasIssued, ListsNumbers, ResourceFields}
use Rattle.rpki_path.specs.Asking.{RevocationChecks}
use Rattle.rpki_path.specs.Paths.{Path, Member, HasHeld, Holds, NumberKind, v4_addresses, v6_addresses}
use Rattle.rpki_path.specs.Paths.{system_numbers, kind_resources, longer}
use Rattle.rpki_path.proofs.ValidPaths.{held_then}

-- ---- numbers of two sets

abbrev met : Block → Block → Block
met b c = between (max b.min c.min) (min b.max c.max)

abbrev meet_one : Block → List Block → List Block
meet_one b [] = []
meet_one b (c ∷ cs) = met b c ∷ meet_one b cs

abbrev meet : List Block → List Block → List Block
meet [] cs = []
meet (b ∷ bs) cs = meet_one b cs ++ meet bs cs

module _ (n : ℕ) where
  record InOne (b : Block) (cs : List Block) : Type 0 where
    low : b.min ≤ n
    high : n ≤ b.max
    other : is_in n cs ≡ true

  one_in : (b : Block) (cs : List Block) → is_in n (meet_one b cs) ≡ true → InOne b cs
  one_in b [] h = absurd (cc h)
  one_in b (c ∷ cs) h = elim (in_cases n (met b c) (meet_one b cs) h) [
    | inl here ↦ record {
      low = omega (arith, here.0);
      high = omega (arith, here.1);
      other = in_head n c cs (omega (arith, here.0)) (omega (arith, here.1));
    }
    | inr later ↦ let r = one_in b cs later in record { low = r.low; high = r.high; other = in_tail n c cs r.other }
  ]

  in_one : (b : Block) (cs : List Block) → b.min ≤ n → n ≤ b.max → is_in n cs ≡ true → is_in n (meet_one b cs) ≡ true
  in_one b [] low high h = absurd (cc h)
  in_one b (c ∷ cs) low high h = elim (in_cases n c cs h) [
    | inl here ↦ in_head n (met b c) (meet_one b cs) (omega (arith, low, here.0)) (omega (arith, high, here.1))
    | inr later ↦ in_tail n (met b c) (meet_one b cs) (in_one b cs low high later)
  ]

  both_in : (bs cs : List Block) → is_in n (meet bs cs) ≡ true → (is_in n bs ≡ true) × (is_in n cs ≡ true)
  both_in [] cs h = absurd (cc h)
  both_in (b ∷ bs) cs h = elim (in_append_cases n (meet_one b cs) (meet bs cs) h) [
    | inl one ↦ let r = one_in b cs one in (in_head n b bs r.low r.high, r.other)
    | inr more ↦ let r = both_in bs cs more in (in_tail n b bs r.0, r.1)
  ]

  in_both : (bs cs : List Block) → is_in n bs ≡ true → is_in n cs ≡ true → is_in n (meet bs cs) ≡ true
  in_both [] cs h k = absurd (cc h)
  in_both (b ∷ bs) cs h k = elim (in_cases n b bs h) [
    | inl here ↦ in_append_left n (meet_one b cs) (meet bs cs) (in_one b cs here.0 here.1 k)
    | inr later ↦ in_append_right n (meet_one b cs) (meet bs cs) (in_both bs cs later k)
  ]

-- ---- what is issued

abbrev issued : List Block → Resources → List Block
issued held missing = []
issued held inherit = held
issued held (blocks chain) = meet chain held

is_issued : (held : List Block) (r : Resources) → IsIssued held r (issued held r)
is_issued held missing = λ n. ((λ h. absurd (cc h)), (λ g. absurd g))
is_issued held inherit = λ n. ((λ h. h), (λ g. g))
is_issued held (blocks chain) = λ n. ((λ h. both_in n chain held h), (λ g. in_both n chain held g.0 g.1))

abbrev issued_to : ResourceFields → CertFields → ResourceFields
issued_to r c = record {
  cert = c;
  v4 = issued r.v4 c.fields.extensions.v4_resources;
  v6 = issued r.v6 c.fields.extensions.v6_resources;
  as_numbers = issued r.as_numbers c.fields.extensions.as_resources;
  tal = r.tal;
}

has_issued : (r : ResourceFields) (c : CertFields) → HasIssued c r (issued_to r c)
has_issued r c = record {
  cert_is = refl;
  v4_is = is_issued r.v4 c.fields.extensions.v4_resources;
  v6_is = is_issued r.v6 c.fields.extensions.v6_resources;
  as_is = is_issued r.as_numbers c.fields.extensions.as_resources;
  tal_is = refl;
}

-- ---- what a trust anchor lists

abbrev listed : Resources → List Block
listed missing = []
listed inherit = []
listed (blocks chain) = chain

is_listed : (r : Resources) → ListsNumbers r (listed r)
is_listed missing = λ n. ((λ h. absurd (cc h)), (λ l. absurd l))
is_listed inherit = λ n. ((λ h. absurd (cc h)), (λ l. absurd l))
is_listed (blocks chain) = λ n. ((λ h. h), (λ l. l))

module _ (c : CertFields) where
  abbrev alone : Path
  alone = record { anchor = c; below = [] }

  holds_alone : (k : NumberKind) (n : ℕ) → IsListed n (kind_resources k c) → Holds alone 0 k n
  holds_alone k n l = record { listed = l; passed_on = λ j low high. absurd (omega (arith, low, high)) }

  abbrev top_holds : List ℕ → ResourceFields
  top_holds tal = record {
    cert = c;
    v4 = listed c.fields.extensions.v4_resources;
    v6 = listed c.fields.extensions.v6_resources;
    as_numbers = listed c.fields.extensions.as_resources;
    tal = tal;
  }

  top_held : (tal : List ℕ) → HasHeld alone tal (top_holds tal)
  top_held tal = record {
    cert_is = refl;
    v4_is = λ n. (
      (λ h. holds_alone v4_addresses n ((is_listed c.fields.extensions.v4_resources n).0 h)),
      (λ h. (is_listed c.fields.extensions.v4_resources n).1 h.listed),
    );
    v6_is = λ n. (
      (λ h. holds_alone v6_addresses n ((is_listed c.fields.extensions.v6_resources n).0 h)),
      (λ h. (is_listed c.fields.extensions.v6_resources n).1 h.listed),
    );
    as_is = λ n. (
      (λ h. holds_alone system_numbers n ((is_listed c.fields.extensions.as_resources n).0 h)),
      (λ h. (is_listed c.fields.extensions.as_resources n).1 h.listed),
    );
    tal_is = refl;
  }

-- ---- a path

module _ (x : Context) (asked : RevocationChecks) (tal : List ℕ) where
  -- what the last member holds, if a trust anchor holds something
  pub held_down : (p : Path) (r : ResourceFields) → HasHeld p tal r → (ms : List Member) →
      (s : ResourceFields) × HasHeld (record { anchor = p.anchor; below = p.below ++ ms }) tal s
  held_down p r held [] = (
    r,
    subst (λ (l : List Member). HasHeld (record { anchor = p.anchor; below = l }) tal r)
        (sym (append-nil p.below)) held,
  )
  held_down p r held (m ∷ ms) =
      let s = issued_to r m.cert in
      let more = held_then x asked p tal r held m.kind s (has_issued r m.cert) in
      let rest = held_down (longer p m) s more ms in (
        rest.0,
        subst (λ (l : List Member). HasHeld (record { anchor = p.anchor; below = l }) tal rest.0)
            (append_assoc p.below (m ∷ []) ms) rest.1,
      )

  -- what the last member of a path holds
  pub held : (p : Path) → (r : ResourceFields) × HasHeld p tal r
  held p = held_down (record { anchor = p.anchor; below = [] }) (top_holds p.anchor tal) (top_held p.anchor tal) p.below
