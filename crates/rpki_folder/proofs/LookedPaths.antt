-- Which paths a walk looks at: those whose names chain, if they are asked, and on which no issuer is
-- of an entity that stands above it.
use Rattle.std.specs.List.{AllZip}
use Rattle.std.specs.Prelude.{Bool, true, IsTrue}
use Rattle.std.proofs.Common.{◌≡◌, ◌+◌, ◌<◌, ℕ, zero, suc, List, [], ◌∷◌, ◌++◌, length, map, get_or, refl, sym, ap}
use Rattle.std.proofs.Common.{subst, ◌∙◌, inl, inr, append_assoc, arith}
use Rattle.std.proofs.lemmas.List.{append-nil, length-append}
use Rattle.std.proofs.Math.Seq.{get_or-append_seam}
use Rattle.std.proofs.Math.ListN.{get_or-append}
use Rattle.rpki_der.specs.Values.{IsUnambiguous}
use Rattle.rpki_der.proofs.Formats.{one_meant}
use Rattle.rpki_cert.specs.Certificates.{CertFields, IsCertificate}
use Rattle.rpki_cert.specs.declared.inspect.Kind.{Kind}
use Rattle.rpki_path.specs.NameChains.{IsNamedBelow}
use Rattle.rpki_path.specs.Paths.{Candidate, candidate, IsMember, IsPathOf, Member, Path, certificate_at, last}
use Rattle.rpki_path.specs.Repeats.{AreOneEntity, HasNoRepeat}
use Rattle.rpki_folder.specs.Folders.{cas_at, string_at}
use Rattle.rpki_folder.specs.Walks.{StandsAt, IsAmong, IsLastOf, IsRepeated, IsLookedAt, AreAdmitted}
use Rattle.rpki_folder.proofs.LookedAt.{last_there}
use Rattle.rpki_folder.proofs.WalkedNames.{named_at, stand_at, walked}

-- as many members as strings
pub zip_length : (certs : List (List ℕ)) (end : Candidate) (ms : List Member) (places : List ℕ) →
    AllZip IsMember ms (cas_at certs places ++ end ∷ []) → length ms ≡ length places + 1
zip_length certs end [] [] h = absurd h
zip_length certs end (m ∷ []) [] h = refl
zip_length certs end (m ∷ n ∷ ms) [] h = absurd h.1
zip_length certs end [] (p ∷ places) h = absurd h
zip_length certs end (m ∷ ms) (p ∷ places) h = let r = zip_length certs end ms places h.1 in omega (arith, r)

-- a list, cut at one of its places
record Cut (l : List ℕ) (k : ℕ) : Type 0 where
  front : List ℕ
  here : ℕ
  rest : List ℕ
  parts : l ≡ front ++ here ∷ rest
  long : length front ≡ k

cut_at : (l : List ℕ) (k : ℕ) → k < length l → Cut l k
cut_at [] k low = absurd (omega (arith, low))
cut_at (q ∷ l) zero low = record { front = []; here = q; rest = l; parts = refl; long = refl }
cut_at (q ∷ l) (suc k) low =
    let r = cut_at l k (omega (arith, low)) in
    record {
      front = q ∷ r.front;
      here = r.here;
      rest = r.rest;
      parts = ap (λ (m : List ℕ). q ∷ m) r.parts;
      long =
          ap suc r.long;
    }

-- with one more behind it, it has a first
first_of : (rest : List ℕ) (end : ℕ) → (q : ℕ) × (more : List ℕ) × (rest ++ end ∷ [] ≡ q ∷ more)
first_of [] end = (end, [], refl)
first_of (q ∷ rest) end = (q, rest ++ end ∷ [], refl)

-- what is at one of its places
at_low : (l : List ℕ) (k : ℕ) → k < length l → (q : ℕ) × (get_or l k q ≡ q)
at_low [] k low = absurd (omega (arith, low))
at_low (q ∷ l) zero low = (q, refl)
at_low (q ∷ l) (suc k) low = at_low l k (omega (arith, low))

-- each of some admitted places is admitted below those before it
admitted_at : (A : List ℕ → ℕ → Type 0) (front : List ℕ) (q : ℕ) (rest before : List ℕ) →
    AreAdmitted A before (front ++ q ∷ rest) → A (before ++ front) q
admitted_at A [] q rest before h = subst (λ (l : List ℕ). A l q) (sym (append-nil before)) h.0
admitted_at A (p ∷ front) q rest before h = subst (λ (l : List ℕ). A l q) (append_assoc before (p ∷ []) front)
    (admitted_at A front q rest (before ++ p ∷ []) h.1)

module _ (names : Bool) (anchor : List ℕ) (certs : List (List ℕ)) (place : ℕ) (kind : Kind)
    (law : IsUnambiguous IsCertificate) (above : List ℕ) (p : Path)
    (path_of : IsPathOf anchor (cas_at certs above ++ candidate kind (string_at certs place) ∷ []) p) where
  abbrev all : List ℕ
  all = above ++ place ∷ []

  abbrev Looked : List ℕ → ℕ → Type 0
  Looked = IsLookedAt names (λ l n. Unit {0}) p.anchor certs

  abbrev Stand : Member → ℕ → Type 0
  Stand m q = StandsAt certs q m.cert

  zip_at : (ms : List Member) (places : List ℕ) (k q : ℕ) (d : CertFields) → AllZip Stand ms places →
      k < length places → get_or places k q ≡ q → StandsAt certs q (get_or (map (λ (m : Member). m.cert) ms) k d)
  zip_at ms [] k q d h low is = absurd (omega (arith, low))
  zip_at [] (r ∷ places) k q d h low is = absurd h
  zip_at (m ∷ ms) (r ∷ places) zero q d h low is = subst (λ (n : ℕ). StandsAt certs n m.cert) is h.0
  zip_at (m ∷ ms) (r ∷ places) (suc k) q d h low is = zip_at ms places k q d h.1 (omega (arith, low)) is

  stand : AllZip Stand p.below all
  stand = stand_at (λ l n. Unit {0}) p.anchor certs above place kind p.below path_of.members

  -- at the k-th place the path's certificate stands that is next below
  stands_there : (k q : ℕ) → k < length all → get_or all k q ≡ q → StandsAt certs q (certificate_at p (suc k))
  stands_there k q low is = zip_at p.below all k q p.anchor stand low is

  -- and no other one
  index_at : (k q : ℕ) (c : CertFields) → k < length all → get_or all k q ≡ q → StandsAt certs q c →
      c ≡ certificate_at p (k + 1)
  index_at k q c low is stands =
      let one : suc k ≡ k + 1 = omega arith in
      one_meant IsCertificate law c (certificate_at p (suc k)) (string_at certs q) stands (stands_there k q low is)
      ∙ ap (λ (n : ℕ). certificate_at p n) one

  total : last p ≡ length above + 1
  total = zip_length certs (candidate kind (string_at certs place)) p.below above path_of.members

  many : length all ≡ length above + 1
  many = let e = length-append above (place ∷ []) in omega (arith, e)

  -- the last of the places before
  module _ (front : List ℕ) (q : ℕ) (rest : List ℕ) (parts : (front ++ q ∷ []) ++ rest ≡ all) where
    flat : front ++ q ∷ rest ≡ all
    flat = sym (append_assoc front (q ∷ []) rest) ∙ parts

    here : get_or all (length front) q ≡ q
    here = ap (λ (l : List ℕ). get_or l (length front) q) (sym flat) ∙ get_or-append_seam front q rest q

    fits : length front < length all
    fits = let n = ap length flat in let k = length-append front (q ∷ rest) in omega (arith, sym n, k)

    last_is : (c : CertFields) → StandsAt certs q c → c ≡ certificate_at p (length front + 1)
    last_is c stands = index_at (length front) q c fits here stands

    -- what is at a place of those before it
    in_front : (k r : ℕ) → k < length front → get_or front k r ≡ r → get_or all k r ≡ r
    in_front k r low is = ap (λ (l : List ℕ). get_or l k r) (sym flat) ∙ get_or-append front (q ∷ rest) r k low ∙ is

    -- those before it
    before_is : (d : CertFields) → IsAmong p.anchor certs front d →
        (k : ℕ) × (k < length front + 1) × (d ≡ certificate_at p k)
    before_is d (inl is) = (0, omega arith, is)
    before_is d (inr (r, (k, low, is), stands)) =
        let less : k < length all = omega (arith, low, fits) in
        (k + 1, omega (arith, low), index_at k r d less (in_front k r low is) stands)

    -- each certificate of the path above is among them
    among_front : (i : ℕ) → i < length front + 1 → IsAmong p.anchor certs front (certificate_at p i)
    among_front zero low = inl refl
    among_front (suc k) low =
        let under : k < length front = omega (arith, low) in
        let less : k < length all = omega (arith, under, fits) in
        let r = at_low front k under in
        inr (r.0, (k, under, r.1), stands_there k r.0 less (in_front k r.0 under r.1))

  -- ---- one that was looked at

  module _ (looked : AreAdmitted Looked [] all) where
    -- names chain below the trust anchor
    pub looked_names : IsTrue names → (i : ℕ) → i < last p →
        IsNamedBelow (certificate_at p i) (certificate_at p (i + 1))
    looked_names asks i low =
        let with_names : AreAdmitted (IsLookedAt true (λ l n. Unit {0}) p.anchor certs) [] all =
        subst (λ (n : Bool). AreAdmitted (IsLookedAt n (λ l k. Unit {0}) p.anchor certs) [] all) asks
        looked in
        named_at p.anchor p.below
        (walked (λ l n. Unit {0}) p.anchor certs [] p.anchor refl all p.below stand with_names) i low p.anchor

    none_at : (front : List ℕ) (q r : ℕ) (more : List ℕ) → (front ++ q ∷ []) ++ r ∷ more ≡ all → (i : ℕ) →
        i < length front + 1 → AreOneEntity names (certificate_at p i) (certificate_at p (suc (length front))) → ⊥
    none_at front q r more parts i low one =
        let l : Looked (front ++ q ∷ []) r = admitted_at Looked (front ++ q ∷ []) r more []
        (subst (λ (ps : List ℕ). AreAdmitted Looked [] ps) (sym parts) looked) in
        let stands = stands_there (length front) q (fits front q (r ∷ more) parts) (here front q (r ∷ more) parts) in
        l.no_circle front q refl (certificate_at p (suc (length front))) stands
        (certificate_at p i, among_front front q (r ∷ more) parts i low, one)

    -- and no issuer stands twice
    pub looked_none : HasNoRepeat names p
    looked_none i zero before under one = absurd (omega (arith, before))
    looked_none i (suc k) before under one =
        let inside : k < length above = omega (arith, total, under) in
        let c = cut_at above k inside in
        let f = first_of c.rest place in
        let parts : (c.front ++ c.here ∷ []) ++ f.0 ∷ f.1 ≡ all =
        append_assoc c.front (c.here ∷ []) (f.0 ∷ f.1)
        ∙ ap (λ (l : List ℕ). c.front ++ c.here ∷ l) (sym f.2)
        ∙ sym (append_assoc c.front (c.here ∷ c.rest) (place ∷ []))
        ∙ ap (λ (l : List ℕ). l ++ place ∷ []) (sym c.parts) in
        let low : i < length c.front + 1 = omega (arith, before, c.long) in
        none_at c.front c.here f.0 f.1 parts i low
        (subst (λ (n : ℕ). AreOneEntity names (certificate_at p i) (certificate_at p (suc n))) (sym c.long)
        one)

  -- ---- one of such names, without a circle

  module _ (named : IsTrue names → (i : ℕ) → i < last p →
      IsNamedBelow (certificate_at p i) (certificate_at p (i + 1))) (none : HasNoRepeat names p) where
    -- the last of the places before is of no entity above, if something stands below it
    no_circle : (front : List ℕ) (q : ℕ) (rest : List ℕ) (parts : (front ++ q ∷ []) ++ rest ≡ all) →
        0 < length rest → (c : CertFields) → StandsAt certs q c → IsRepeated names p.anchor certs front c → ⊥
    no_circle front q rest parts some c stands repeated =
        let d = repeated.0 in
        let k = before_is front q rest parts d repeated.1 in
        let n = ap length parts in
        let m = length-append (front ++ q ∷ []) rest in
        let l = length-append front (q ∷ []) in
        let low : length front + 1 < last p = omega (arith, total, sym n, m, l, many, some) in
        none k.0 (length front + 1) k.1 low
        (subst (λ (a : CertFields). AreOneEntity names a (certificate_at p (length front + 1))) k.2
        (subst (λ (b : CertFields). AreOneEntity names d b) (last_is front q rest parts c stands) repeated.2))

    -- which is the last of some places
    last_of : (before : List ℕ) (rest : List ℕ) → before ++ rest ≡ all → (c : CertFields) →
        IsLastOf p.anchor certs before c → c ≡ certificate_at p (length before)
    last_of [] rest parts c h = h
    last_of (q ∷ before) rest parts c h = snoc (q ∷ before) rest parts c h (ends q before) where
      ends : (q : ℕ) (l : List ℕ) → (front : List ℕ) × (e : ℕ) × (q ∷ l ≡ front ++ e ∷ [])
      ends q [] = ([], q, refl)
      ends q (r ∷ l) = let k = ends r l in (q ∷ k.0, k.1, ap (λ (m : List ℕ). q ∷ m) k.2)

      snoc : (before rest : List ℕ) → before ++ rest ≡ all → (c : CertFields) → IsLastOf p.anchor certs before c →
          (front : List ℕ) × (e : ℕ) × (before ≡ front ++ e ∷ []) → c ≡ certificate_at p (length before)
      snoc before rest parts c h (front, e, is) =
          let there = last_there p.anchor certs front e c (subst (λ (l : List ℕ). IsLastOf p.anchor certs l c) is h) in
          let n : length front + 1 ≡ length before = omega (arith, ap length is, length-append front (e ∷ [])) in
          last_is front e rest (ap (λ (l : List ℕ). l ++ rest) (sym is) ∙ parts) c there ∙
          ap (λ (k : ℕ). certificate_at p k) n

    looked_at : (before : List ℕ) (q : ℕ) (rest : List ℕ) → before ++ q ∷ rest ≡ all → Looked before q
    looked_at before q rest parts = record {
      admitted = tt;
      named = λ issuer is asks c stands.
          let grouped : (before ++ q ∷ []) ++ rest ≡ all = append_assoc before (q ∷ []) rest ∙ parts in
          let above_is = last_of before (q ∷ rest) parts issuer is in
          let c_is = last_is before q rest grouped c stands in
          let n = ap length parts in
          let m = length-append before (q ∷ rest) in
          let low : length before < last p = omega (arith, total, sym n, m, many) in
          subst (λ (a : CertFields). IsNamedBelow a c) (sym above_is)
          (subst (λ (b : CertFields). IsNamedBelow (certificate_at p (length before)) b) (sym c_is)
          (named asks (length before) low));
      no_circle = λ front e is c stands repeated.
          no_circle front e (q ∷ rest) (ap (λ (l : List ℕ). l ++ q ∷ rest) (sym is) ∙ parts) (omega arith) c stands
          repeated;
    }

    looked_down : (before rest : List ℕ) → before ++ rest ≡ all → AreAdmitted Looked before rest
    looked_down before [] parts = tt
    looked_down before (q ∷ rest) parts = (
      looked_at before q rest parts,
      looked_down (before ++ q ∷ []) rest (append_assoc before (q ∷ []) rest ∙ parts),
    )

    pub all_looked : AreAdmitted Looked [] all
    all_looked = looked_down [] all refl
