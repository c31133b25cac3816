-- A walkable path on which an entity comes twice stays walkable without the certificates between.
use Rattle.std.specs.List.{AllByRecursion}
use Rattle.std.specs.Prelude.{Bool, IsTrue, IfSome}
use Rattle.std.proofs.Common.{◌≡◌, ◌⊎◌, ◌+◌, ◌-◌, ◌<◌, ◌≤◌, ℕ, zero, suc, List, [], ◌∷◌, ◌++◌, length, map, take}
use Rattle.std.proofs.Common.{drop, get_or, sym, ap, subst, ◌∙◌, inl, inr, arith}
use Rattle.std.proofs.lemmas.Bool.{cases_order}
use Rattle.std.proofs.lemmas.List.{map-append, length-map, length-append, length-take-le, length-drop, get_or-take}
use Rattle.std.proofs.lemmas.List.{get_or-drop, get_or_append_left, get_or-append_right, take-map, drop-map}
use Rattle.rpki_parts.specs.Keys.{KeyFields, key_identifier}
use Rattle.rpki_cert.specs.Certificates.{TbsFields, CertFields}
use Rattle.rpki_cert.specs.Profiles.{MeetsProfile}
use Rattle.rpki_cert.specs.Verification.{Context, Held, Check, IsSignedBy, issued_checks, IsVerified}
use Rattle.rpki_cert.specs.declared.inspect.Kind.{Kind}
use Rattle.rpki_cert.specs.declared.inspect.Kind.TheVariants.{Anchor, Authority, EndEntity, Detached, Router}
use Rattle.rpki_cert.specs.declared.verification_error.VerificationError.{VerificationError}
use Rattle.rpki_cert.specs.declared.verification_error.VerificationError.TheVariants.{NotYetValid, Expired}
use Rattle.rpki_cert.specs.declared.verification_error.VerificationError.TheVariants.{InheritedV4, InheritedV6}
use Rattle.rpki_cert.specs.declared.verification_error.VerificationError.TheVariants.{InheritedAs, MissingKeyId}
use Rattle.rpki_cert.specs.declared.verification_error.VerificationError.TheVariants.{WrongKeyId, MissingIssuerUri}
use Rattle.rpki_cert.specs.declared.verification_error.VerificationError.TheVariants.{BadSignature, OverclaimV4}
use Rattle.rpki_cert.specs.declared.verification_error.VerificationError.TheVariants.{OverclaimV6, OverclaimAs}
use Rattle.rpki_cert.specs.declared.verification_error.VerificationError.TheVariants.{Memory}
use Rattle.rpki_cert.proofs.Checks.{all_map}
use Rattle.rpki_crl.specs.Revocation.{revocation_checks}
use Rattle.rpki_path.specs.Asking.{RevocationChecks, IsUnrevokedBy}
use Rattle.rpki_path.specs.NameChains.{NamesChain, IsNamedBelow}
use Rattle.rpki_path.specs.Paths.{Path, Member, last, certificate_at, NumberKind, v4_addresses, v6_addresses}
use Rattle.rpki_path.specs.Paths.{system_numbers, PassesOn, Holds, HeldAt, CheckBelow, IsValidPath}
use Rattle.rpki_path.specs.Repeats.{AreOneEntity, AreAlike, AsksByEntity, IsWalkable, without}

-- ---- lists without some of their items

module _ {X : Type 0} (xs : List X) (i j : ℕ) (before : i ≤ j) (within : j ≤ length xs) where
  low : i ≤ length xs
  low = omega (arith, before, within)

  pub cut_length : length (take i xs ++ drop j xs) + (j - i) ≡ length xs
  cut_length = omega (
    arith,
    length-append (take i xs) (drop j xs),
    length-take-le i xs low,
    length-drop j xs,
    before,
    within,
  )

  pub cut_below : (d : X) (n : ℕ) → n < i → get_or (take i xs ++ drop j xs) n d ≡ get_or xs n d
  cut_below d n h =
      let short : n < length (take i xs) = omega (arith, h, length-take-le i xs low) in
      get_or_append_left (take i xs) (drop j xs) d n short ∙ get_or-take i xs n d h

  pub cut_from : (d : X) (n : ℕ) → i ≤ n → get_or (take i xs ++ drop j xs) n d ≡ get_or xs (n + (j - i)) d
  cut_from d n h =
      let at : j + (n - i) ≡ n + (j - i) = omega (arith, h, before) in
      get_or-append_right (take i xs) (drop j xs) i n d (length-take-le i xs low) h
      ∙ get_or-drop j xs (n - i) d
      ∙ ap (λ (k : ℕ). get_or xs k d) at

module _ {X : Type 0} (P : X → Type 0) where
  all_dropped : (xs : List X) (j : ℕ) → AllByRecursion P xs → AllByRecursion P (drop j xs)
  all_dropped xs zero all = all
  all_dropped [] (suc j) all = tt
  all_dropped (x ∷ xs) (suc j) all = all_dropped xs j all.1

  all_taken : (xs : List X) (i : ℕ) (rest : List X) → AllByRecursion P xs → AllByRecursion P rest →
      AllByRecursion P (take i xs ++ rest)
  all_taken xs zero rest all more = more
  all_taken [] (suc i) rest all more = more
  all_taken (x ∷ xs) (suc i) rest all more = (all.0, all_taken xs i rest all.1 more)

-- ---- identifiers

-- a certificate that meets a profile has the identifier of its key
names_its_key : (kind : Kind) (strict : Bool) (c : CertFields) → MeetsProfile kind strict c →
    c.fields.extensions.subject_key_identifier ≡ key_identifier c.fields.key
names_its_key Anchor strict c h = h.1.1.1.1.0
names_its_key Authority strict c h = h.1.1.1.1.0
names_its_key EndEntity strict c h = h.1.1.1.1.0
names_its_key Detached strict c h = h.1.1.1.1.0
names_its_key Router strict c h = h.1.1.1.1.1.0

module _ (x : Context) (asked : RevocationChecks) (names : Bool) (p : Path) where
  -- the certificate of each member has
  members_named : (l : List Member) → AllByRecursion (λ m. MeetsProfile m.kind x.strict m.cert) l →
      (n : ℕ) (d : CertFields) → n < length l →
      (get_or (map (λ (m : Member). m.cert) l) n d).fields.extensions.subject_key_identifier ≡
      key_identifier (get_or (map (λ (m : Member). m.cert) l) n d).fields.key
  members_named [] all n d h = absurd (omega (arith, h))
  members_named (m ∷ l) all zero d h = names_its_key m.kind x.strict m.cert all.0
  members_named (m ∷ l) all (suc n) d h = members_named l all.1 n d (omega (arith, h))

  at_named : IsValidPath x asked p → (n : ℕ) → n ≤ last p →
      (certificate_at p n).fields.extensions.subject_key_identifier ≡
      key_identifier (certificate_at p n).fields.key
  at_named valid zero h = names_its_key Anchor x.strict p.anchor valid.anchor_meets
  at_named valid (suc n) h = members_named p.below valid.members_meet n p.anchor (omega (arith, h))

  -- one entity's identifier is one
  pub one_entity_alike : IsValidPath x asked p → (i j : ℕ) → i ≤ last p → j ≤ last p →
      AreOneEntity names (certificate_at p i) (certificate_at p j) →
      AreAlike names (certificate_at p j).fields (certificate_at p i).fields
  one_entity_alike valid i j low high one = record {
    key_is = sym one.0;
    identifier_is = at_named valid j high ∙ ap key_identifier (sym one.0) ∙ sym (at_named valid i low);
    subject_is = λ asks. sym (one.1 asks);
  }

-- ---- checks

-- a check that is true below an issuer is true below one that is alike and holds as much
module _ (x : Context) (names : Bool) (f g : TbsFields) (alike : AreAlike names f g) (h k : Held)
    (v4 : (n : ℕ) → h.v4 n → k.v4 n) (v6 : (n : ℕ) → h.v6 n → k.v6 n) (numbers : (n : ℕ) → h.as_numbers n →
    k.as_numbers n) where
  check_alike : (c : CertFields) (e : VerificationError) → Check x f h c e → Check x g k c e
  check_alike c NotYetValid l = l
  check_alike c Expired l = l
  check_alike c InheritedV4 l = l
  check_alike c InheritedV6 l = l
  check_alike c InheritedAs l = l
  check_alike c MissingKeyId l = l
  check_alike c WrongKeyId l =
      subst (λ (key : List ℕ). IfSome c.fields.extensions.authority_key_identifier (λ id. id ≡ key))
      alike.identifier_is l
  check_alike c MissingIssuerUri l = l
  check_alike c BadSignature l = subst (λ (key : KeyFields). IsSignedBy x.verifies key c.signed_data) alike.key_is l
  check_alike c OverclaimV4 l = λ mode n small listed. v4 n (l mode n small listed)
  check_alike c OverclaimV6 l = λ mode n small listed. v6 n (l mode n small listed)
  check_alike c OverclaimAs l = λ mode n small listed. numbers n (l mode n small listed)
  check_alike c Memory l = l

-- ---- the shorter path

abbrev certs : Path → List CertFields
certs p = p.anchor ∷ map (λ (m : Member). m.cert) p.below

module _ (p : Path) (i j : ℕ) (before : i ≤ j) (within : j ≤ last p) where
  abbrev q : Path
  q = without p i j

  certs_cut : certs q ≡ take (suc i) (certs p) ++ drop (suc j) (certs p)
  certs_cut =
      let f : Member → CertFields = λ (m : Member). m.cert in
      ap (λ (cs : List CertFields). p.anchor ∷ cs)
      (map-append f (take i p.below) (drop j p.below)
      ∙ ap (λ (cs : List CertFields). cs ++ map f (drop j p.below)) (sym (take-map f i p.below))
      ∙ ap (λ (cs : List CertFields). take i (map f p.below) ++ cs) (sym (drop-map f j p.below)))

  high : suc j ≤ length (certs p)
  high = omega (arith, within, length-map p.below (λ (m : Member). m.cert))

  ordered : suc i ≤ suc j
  ordered = omega (arith, before)

  -- its last place
  pub last_cut : last q + (j - i) ≡ last p
  last_cut = cut_length p.below i j before within

  -- the certificates above the cut
  pub at_above : (n : ℕ) → n ≤ i → certificate_at q n ≡ certificate_at p n
  at_above n h =
      let short : n < suc i = omega (arith, h) in
      ap (λ (cs : List CertFields). get_or cs n p.anchor) certs_cut ∙ cut_below (certs p) (suc i) (suc j) ordered
      high p.anchor n short

  -- and those below it
  pub at_below : (n : ℕ) → i < n → certificate_at q n ≡ certificate_at p (n + (j - i))
  at_below n h =
      let from : suc i ≤ n = omega (arith, h) in
      let same : n + (suc j - suc i) ≡ n + (j - i) = omega arith in
      ap (λ (cs : List CertFields). get_or cs n p.anchor) certs_cut
      ∙ cut_from (certs p) (suc i) (suc j) ordered high p.anchor n from
      ∙ ap (λ (m : ℕ). get_or (certs p) m p.anchor) same

  -- it ends in the same certificate
  pub end_cut : j < last p → certificate_at q (last q) ≡ certificate_at p (last p)
  end_cut h =
      let far : i < last q = omega (arith, last_cut, h, before) in
      at_below (last q) far ∙ ap (λ (n : ℕ). certificate_at p n) last_cut

  -- ---- numbers

  module _ (k : NumberKind) (n : ℕ) where
    -- above the cut the same is held
    pub holds_before : (m : ℕ) → m ≤ i → Holds p m k n → Holds q m k n
    holds_before m low held = record {
      listed = held.listed;
      passed_on = λ t one most.
          let short : t ≤ i = omega (arith, most, low) in
          subst (λ (c : CertFields). PassesOn c k n) (sym (at_above t short)) (held.passed_on t one most);
    }

    passed : (m : ℕ) → i ≤ m → Holds p (m + (j - i)) k n → (t : ℕ) → 1 ≤ t → t ≤ m → (t ≤ i) ⊎ (i < t) →
        PassesOn (certificate_at q t) k n
    passed m low held t one most (inl short) =
        let all : t ≤ m + (j - i) = omega (arith, most) in
        subst (λ (c : CertFields). PassesOn c k n) (sym (at_above t short)) (held.passed_on t one all)
    passed m low held t one most (inr far) =
        let first : 1 ≤ t + (j - i) = omega (arith, one) in
        let all : t + (j - i) ≤ m + (j - i) = omega (arith, most) in
        subst (λ (c : CertFields). PassesOn c k n) (sym (at_below t far)) (held.passed_on (t + (j - i)) first all)

    sided : (t : ℕ) → (t ≤ i) ⊎ (i < t)
    sided t = elim (cases_order t i) [
      | inl e ↦ let h : t ≤ i = omega (arith, e) in inl h
      | inr (inl less) ↦ let h : t ≤ i = omega (arith, less) in inl h
      | inr (inr more) ↦ inr more
    ]

    -- from there on at least the same is
    pub holds_from : (m : ℕ) → i ≤ m → Holds p (m + (j - i)) k n → Holds q m k n
    holds_from m low held = record {
      listed = held.listed;
      passed_on = λ t one most. passed m low held t one most (sided t);
    }

    pub holds_last : Holds p (last p) k n → Holds q (last q) k n
    holds_last held =
        let far : i ≤ last q = omega (arith, last_cut, before, within) in
        holds_from (last q) far (subst (λ (m : ℕ). Holds p m k n) (sym last_cut) held)

  -- ---- issuers

  -- in the place of which issuer of the path one of the shorter stands
  record StandsFor (names : Bool) (m : ℕ) : Type 0 where
    place : ℕ
    above : place < last p
    next : certificate_at q (m + 1) ≡ certificate_at p (place + 1)
    alike : AreAlike names (certificate_at p place).fields (certificate_at q m).fields
    holds : (k : NumberKind) (n : ℕ) → Holds p place k n → Holds q m k n

  module _ (names : Bool) (one : AreAlike names (certificate_at p j).fields (certificate_at p i).fields) where
    itself : (c d : CertFields) → d ≡ c → AreAlike names c.fields d.fields
    itself c d e = record {
      key_is = ap (λ (c : CertFields). c.fields.key) (sym e);
      identifier_is = ap (λ (c : CertFields). c.fields.extensions.subject_key_identifier) (sym e);
      subject_is = λ asks. ap (λ (c : CertFields). c.fields.subject) (sym e);
    }

    stands : (m : ℕ) → m < last q → (m ≡ i) ⊎ ((m < i) ⊎ (i < m)) → StandsFor names m
    stands m low (inl e) = record {
      place = j;
      above = omega (arith, last_cut, low, e, before);
      next =
          let far : i < m + 1 = omega (arith, e) in
          let at : m + 1 + (j - i) ≡ j + 1 = omega (arith, e, before) in
          at_below (m + 1) far ∙ ap (λ (n : ℕ). certificate_at p n) at;
      alike =
          let self : i ≤ i = omega arith in
          subst (λ (n : ℕ). AreAlike names (certificate_at p j).fields (certificate_at q n).fields) (sym e)
          (subst (λ (c : CertFields). AreAlike names (certificate_at p j).fields c.fields) (sym (at_above i self)) one);
      holds = λ k n held.
          let far : i ≤ m = omega (arith, e) in
          let at : j ≡ m + (j - i) = omega (arith, e, before) in
          holds_from k n m far (subst (λ (t : ℕ). Holds p t k n) at held);
    }
    stands m low (inr (inl less)) = record {
      place = m;
      above = omega (arith, last_cut, low);
      next = let short : m + 1 ≤ i = omega (arith, less) in at_above (m + 1) short;
      alike = let short : m ≤ i = omega (arith, less) in
          itself (certificate_at p m) (certificate_at q m) (at_above m short);
      holds = λ k n held. let short : m ≤ i = omega (arith, less) in holds_before k n m short held;
    }
    stands m low (inr (inr more)) = record {
      place = m + (j - i);
      above = omega (arith, last_cut, low);
      next =
          let far : i < m + 1 = omega (arith, more) in
          let at : m + 1 + (j - i) ≡ m + (j - i) + 1 = omega arith in
          at_below (m + 1) far ∙ ap (λ (n : ℕ). certificate_at p n) at;
      alike = itself (certificate_at p (m + (j - i))) (certificate_at q m) (at_below m more);
      holds = λ k n held. let far : i ≤ m = omega (arith, more) in holds_from k n m far held;
    }

    -- ---- the path is walkable

    module _ (x : Context) (asked : RevocationChecks) (by_entity : AsksByEntity names asked)
        (walkable : IsWalkable x asked names p) where
      abbrev valid : IsValidPath x asked p
      valid = walkable.is_valid

      verified : (m : ℕ) → m < last q → IsVerified (CheckBelow x q m (certificate_at q (m + 1))) issued_checks
      verified m low =
          let s = stands m low (cases_order m i) in
          let c = certificate_at p (s.place + 1) in
          subst (λ (c : CertFields). IsVerified (CheckBelow x q m c) issued_checks) (sym s.next)
          (all_map (CheckBelow x p s.place c) (CheckBelow x q m c) issued_checks
          (check_alike x names (certificate_at p s.place).fields (certificate_at q m).fields s.alike
          (HeldAt p s.place) (HeldAt q m) (s.holds v4_addresses) (s.holds v6_addresses)
          (s.holds system_numbers) c)
          (valid.members_verified s.place s.above))

      unrevoked : (m : ℕ) → m < last q → IsUnrevokedBy asked (certificate_at q m).fields (certificate_at q (m + 1))
      unrevoked m low =
          let s = stands m low (cases_order m i) in
          let c = certificate_at p (s.place + 1) in
          let f = (certificate_at p s.place).fields in
          let g = (certificate_at q m).fields in
          subst (λ (c : CertFields). IsUnrevokedBy asked g c) (sym s.next)
          (all_map (asked f c) (asked g c) revocation_checks (λ e l. by_entity f g c e s.alike l)
          (valid.members_unrevoked s.place s.above))

      named : IsTrue names → NamesChain p → (m : ℕ) → m < last q →
          IsNamedBelow (certificate_at q m) (certificate_at q (m + 1))
      named asks chain m low =
          let s = stands m low (cases_order m i) in
          subst (λ (c : CertFields). IsNamedBelow (certificate_at q m) c) (sym s.next)
          (chain.members_named s.place s.above ∙ s.alike.subject_is asks)

      pub cut_walkable : IsWalkable x asked names q
      cut_walkable = record {
        is_valid = record {
          anchor_meets = valid.anchor_meets;
          members_meet = all_taken (λ (m : Member). MeetsProfile m.kind x.strict m.cert) p.below i (drop j p.below)
              valid.members_meet
              (all_dropped (λ (m : Member). MeetsProfile m.kind x.strict m.cert) p.below j valid.members_meet);
          anchor_verified = valid.anchor_verified;
          members_verified = verified;
          members_unrevoked = unrevoked;
        };
        chained = λ asks. let chain = walkable.chained asks in
            record { anchor_named = chain.anchor_named; members_named = named asks chain };
      }
