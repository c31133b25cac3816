-- A path by any places of its CAs is one by the first places of their certificates.
use Rattle.std.specs.List.{AllByRecursion, AllZip}
use Rattle.std.specs.Prelude.{Bool, Some}
use Rattle.std.proofs.Common.{◌≡◌, ◌<◌, ◌≤◌, ℕ, suc, List, [], ◌∷◌, ◌++◌, length, map, refl, sym, ap, subst}
use Rattle.std.proofs.Common.{inl, inr, arith}
use Rattle.std.proofs.lemmas.List.{append-nil, get_or_past, length-map, map-append}
use Rattle.rpki_der.specs.Values.{IsUnambiguous, enc}
use Rattle.rpki_der.proofs.Formats.{one_meant}
use Rattle.rpki_parts.specs.SignedDatas.{signed_data}
use Rattle.rpki_cert.specs.Certificates.{CertFields, IsCertificate}
use Rattle.rpki_cert.specs.Verification.{Context, ResourceFields}
use Rattle.rpki_cert.specs.declared.inspect.Kind.{Kind}
use Rattle.rpki_cert.specs.declared.inspect.Kind.TheVariants.{Anchor, Authority, EndEntity, Detached, Router}
use Rattle.rpki_cert.proofs.CertificateFormats.{certificate_is}
use Rattle.rpki_keys.specs.Locators.{NamedTal}
use Rattle.rpki_path.specs.Asking.{RevocationChecks}
use Rattle.rpki_path.specs.Paths.{Candidate, IsMember, Member, candidate}
use Rattle.rpki_path.specs.declared.judging.Judged.{Judged}
use Rattle.rpki_folder.specs.FirstPlaces.{AreFirstsIn, IsCertificateOctets, IsFirstIn, first_from, first_place_of}
use Rattle.rpki_folder.specs.Folders.{IsFirstPlaceOf, cas_at, string_at}
use Rattle.rpki_folder.specs.Walks.{AreAdmitted, IsAcceptedAs, IsLookedAt, IsReached, LeadsTo, StandsAt, at_anchor}
use Rattle.rpki_folder.specs.declared.firsts.Firsts.{Firsts}
use Rattle.rpki_folder.proofs.AlikeOctets.{accepted_alike, are_alike, kind_alike}
use Rattle.rpki_folder.proofs.Descent.{all_append, less-or-not, there as inside_at}
use Rattle.rpki_folder.proofs.FirstSteps.{is_first_of}
use Rattle.rpki_folder.proofs.Renamed.{all_looked_there}

octets_kept : (c : CertFields) (octets : List ℕ) → IsCertificate c octets → octets ≡ signed_data c.signed_data
unfolding enc
octets_kept c octets is = certificate_is c octets is

zip_length : {X Y : Type 0} (R : X → Y → Type 0) (xs : List X) (ys : List Y) → AllZip R xs ys → length xs ≡ length ys
zip_length R [] [] h = refl
zip_length R [] (y ∷ ys) h = absurd h
zip_length R (x ∷ xs) [] h = absurd h
zip_length R (x ∷ xs) (y ∷ ys) h = ap suc (zip_length R xs ys h.1)

-- ---- what is looked at

module _ (names : Bool) (top : CertFields) (certs : List (List ℕ)) (table : Firsts) where
  -- what is looked at at first places alone is looked at where each place counts
  pub let_in_all : (above places : List ℕ) →
      AreAdmitted (IsLookedAt names (IsFirstIn table) top certs) above places →
      AreAdmitted (IsLookedAt names (λ l p. Unit {0}) top certs) above places
  let_in_all above [] h = tt
  let_in_all above (p ∷ places) h = (
    record { admitted = tt; named = h.0.named; no_circle = h.0.no_circle },
    let_in_all (above ++ p ∷ []) places h.1,
  )

  -- and back, at first places
  let_in_firsts : (above places : List ℕ) → AllByRecursion (λ (p : ℕ). first_place_of table p ≡ p) places →
      AreAdmitted (IsLookedAt names (λ l p. Unit {0}) top certs) above places →
      AreAdmitted (IsLookedAt names (IsFirstIn table) top certs) above places
  let_in_firsts above [] firsts h = tt
  let_in_firsts above (p ∷ places) firsts h = (
    record { admitted = firsts.0; named = h.0.named; no_circle = h.0.no_circle },
    let_in_firsts (above ++ p ∷ []) places firsts.1 h.1,
  )

-- ---- first places

module _ (law : IsUnambiguous IsCertificate) (certs : List (List ℕ)) (table : Firsts)
    (are : AreFirstsIn certs table) where
  abbrev moved : ℕ → ℕ
  moved = first_place_of table

  pub first_is : (place : ℕ) → place < length certs → IsFirstPlaceOf certs place (moved place)
  first_is place low = is_first_of law octets_kept certs table are place low

  -- the certificate stands at the first place
  pub stands_first : (place : ℕ) (c : CertFields) → StandsAt certs place c → StandsAt certs (moved place) c
  stands_first place c stands =
      let one = (first_is place (inside_at certs c place stands)).one in
      let same : one.0 ≡ c = one_meant IsCertificate law one.0 c (string_at certs place) one.1 stands in
      subst (λ (d : CertFields). StandsAt certs (moved place) d) same one.2

  -- copies have one
  pub first_same : (place other : ℕ) (c : CertFields) → StandsAt certs place c → StandsAt certs other c →
      moved place ≡ moved other
  first_same place other c here there =
      let one = first_is place (inside_at certs c place here) in
      let two = first_is other (inside_at certs c other there) in
      let at_one = stands_first place c here in
      let at_two = stands_first other c there in
      elim (less-or-not (moved place) (moved other)) [
        | inl low ↦ absurd (two.is_first (moved place) low (c, at_two, at_one))
        | inr high ↦ elim (less-or-not (moved other) (moved place)) [
          | inl low ↦ absurd (one.is_first (moved other) low (c, at_one, at_two))
          | inr low ↦ omega (arith, high, low)
        ]
      ]

  -- which is its own first
  first_itself : (place : ℕ) (c : CertFields) → StandsAt certs place c → moved (moved place) ≡ moved place
  first_itself place c stands = first_same (moved place) place c (stands_first place c stands) stands

  -- nothing stands before the first of all
  pub first_zero : 0 < length certs → moved 0 ≡ 0
  first_zero some =
      let first = first_is 0 some in
      elim (less-or-not 0 (moved 0)) [
        | inl low ↦ absurd (first.is_first 0 low (first.one.0, first.one.2, first.one.1))
        | inr high ↦ omega (arith, high)
      ]

  -- a place that is none stays as it is
  beyond : (place : ℕ) → length certs ≤ place → moved place ≡ place
  beyond place high =
      let long = zip_length IsCertificateOctets certs are.0 are.1 in
      get_or_past table.firsts.items place place
      (omega (
        arith,
        high,
        long,
        ap length are.2.each,
        length-map table.firsts.items (λ (p : ℕ). Some p),
        length-map are.0 (first_from 0 are.0),
      ))

  -- what stands at the first place stands there
  stood : (place : ℕ) (c : CertFields) → StandsAt certs (moved place) c → StandsAt certs place c
  stood place c stands = elim (less-or-not place (length certs)) [
    | inl low ↦
        let one = (first_is place low).one in
        let same : one.0 ≡ c = one_meant IsCertificate law one.0 c (string_at certs (moved place)) one.2 stands in
        subst (λ (d : CertFields). StandsAt certs place d) same one.1
    | inr high ↦ subst (λ (n : ℕ). StandsAt certs n c) (beyond place high) stands
  ]

  -- ---- members

  members_first : (ms : List Member) (places : List ℕ) (more : List Candidate) →
      AllZip IsMember ms (cas_at certs places ++ more) →
      AllZip IsMember ms (cas_at certs (map moved places) ++ more)
  members_first ms [] more h = h
  members_first [] (p ∷ places) more h = absurd h
  members_first (m ∷ ms) (p ∷ places) more h = (
    record { kind_is = h.0.kind_is; begins = stands_first p m.cert h.0.begins },
    members_first ms places more h.1,
  )

  abbrev AreTheirFirst : List ℕ → Type 0
  AreTheirFirst places = AllByRecursion (λ (p : ℕ). moved p ≡ p) places

  firsts_first : (ms : List Member) (places : List ℕ) (more : List Candidate) →
      AllZip IsMember ms (cas_at certs places ++ more) → AreTheirFirst (map moved places)
  firsts_first ms [] more h = tt
  firsts_first [] (p ∷ places) more h = absurd h
  firsts_first (m ∷ ms) (p ∷ places) more h = (first_itself p m.cert h.0.begins, firsts_first ms places more h.1)

  -- ---- paths

  module _ (x : Context) (asked : RevocationChecks) (t : NamedTal) (anchor : List ℕ) (above : List ℕ) where
    -- a valid path of these CAs leads so far, and so does one by their first places
    record LeadsFirst (more : List Candidate) (r : ResourceFields) : Type 0 where
      leads : LeadsTo x asked (at_anchor t anchor) (cas_at certs (map moved above) ++ more) r
      firsts : AreTheirFirst (map moved above)

    leads_first : (more : List Candidate) (r : ResourceFields) →
        LeadsTo x asked (at_anchor t anchor) (cas_at certs above ++ more) r → LeadsFirst more r
    leads_first more r h = record {
      leads = record {
        path = h.path;
        path_of = record {
          anchor_begins = h.path_of.anchor_begins;
          members =
              members_first h.path.below above more h.path_of.members;
        };
        is_valid = h.is_valid;
        held = h.held;
      };
      firsts = firsts_first h.path.below above more h.path_of.members;
    }

    abbrev IsFirstAs : Kind → List ℕ → Judged → Type 0
    IsFirstAs kind octets j = IsAcceptedAs x asked (at_anchor t anchor) (cas_at certs (map moved above)) kind octets
        j × AreTheirFirst (map moved above)

    as_first : (kind : Kind) (octets : List ℕ) (j : Judged) →
        IsAcceptedAs x asked (at_anchor t anchor) (cas_at certs above) kind octets j → IsFirstAs kind octets j
    as_first Router octets j h =
        let r = leads_first [] j.holder
        (subst (λ (l : List Candidate). LeadsTo x asked (at_anchor t anchor) l j.holder)
        (sym (append-nil (cas_at certs above))) h.0) in (
          (
            subst (λ (l : List Candidate). LeadsTo x asked (at_anchor t anchor) l j.holder)
                (append-nil (cas_at certs (map moved above))) r.leads,
            h.1,
          ),
          r.firsts,
        )
    as_first Anchor octets j h = let r = leads_first (candidate Anchor octets ∷ []) j.holder h.0 in
        ((r.leads, h.1), r.firsts)
    as_first Authority octets j h = let r = leads_first (candidate Authority octets ∷ []) j.holder h.0 in
        ((r.leads, h.1), r.firsts)
    as_first EndEntity octets j h = let r = leads_first (candidate EndEntity octets ∷ []) j.holder h.0 in
        ((r.leads, h.1), r.firsts)
    as_first Detached octets j h = let r = leads_first (candidate Detached octets ∷ []) j.holder h.0 in
        ((r.leads, h.1), r.firsts)

    module _ (place : ℕ) (reached : IsReached x asked (at_anchor t anchor) certs above place) where
      by_firsts : IsFirstAs reached.0 (string_at certs place) reached.1
      by_firsts = as_first reached.0 (string_at certs place) reached.1 reached.3

      -- the path by first places leads to the certificate
      pub reached_first : IsReached x asked (at_anchor t anchor) certs (map moved above) place
      reached_first = (reached.0, reached.1, reached.2, by_firsts.0)

      -- to the first place of that too
      pub reached_firsts : IsReached x asked (at_anchor t anchor) certs (map moved above) (moved place)
      reached_firsts =
          let c = reached.2.0 in
          let one = string_at certs place in
          let other = string_at certs (moved place) in
          let alike = are_alike law c one other reached.2.1 (stands_first place c reached.2.1) in (
            reached.0,
            reached.1,
            kind_alike one other alike reached.0 reached.2,
            accepted_alike one other alike x asked (at_anchor t anchor) (cas_at certs (map moved above))
                reached.0 reached.1 by_firsts.0,
          )

      -- and a walk looks at it there
      pub looked_firsts : (names : Bool) (top : CertFields) →
          AreAdmitted (IsLookedAt names (λ l p. Unit {0}) top certs) [] (above ++ place ∷ []) →
          AreAdmitted (IsLookedAt names (IsFirstIn table) top certs) [] (map moved above ++ moved place ∷ [])
      looked_firsts names top looked =
          let there = all_looked_there moved certs certs stood names top [] (above ++ place ∷ []) looked in
          let_in_firsts names top certs table [] (map moved above ++ moved place ∷ [])
          (all_append (λ (p : ℕ). moved p ≡ p) (map moved above) (moved place ∷ []) by_firsts.1
          (first_itself place reached.2.0 reached.2.1, tt))
          (subst (λ (l : List ℕ). AreAdmitted (IsLookedAt names (λ l p. Unit {0}) top certs) [] l)
          (map-append moved above (place ∷ [])) there)

      pub looked_first : (names : Bool) (top : CertFields) → moved place ≡ place →
          AreAdmitted (IsLookedAt names (λ l p. Unit {0}) top certs) [] (above ++ place ∷ []) →
          AreAdmitted (IsLookedAt names (IsFirstIn table) top certs) [] (map moved above ++ place ∷ [])
      looked_first names top itself looked =
          subst (λ (n : ℕ). AreAdmitted (IsLookedAt names (IsFirstIn table) top certs) []
          (map moved above ++ n ∷ [])) itself (looked_firsts names top looked)
