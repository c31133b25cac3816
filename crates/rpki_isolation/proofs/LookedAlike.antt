-- What a walk looks at below the CAs of a path, another walk looks at, through another folder, if it
-- lets it in.
use Rattle.std.specs.List.{AllByRecursion, AllZip}
use Rattle.std.specs.Prelude.{Bool}
use Rattle.std.proofs.Common.{List, [], ap, append_assoc, inl, inr, refl, subst, sym, ℕ, ◌++◌, ◌∷◌, ◌≡◌}
use Rattle.std.proofs.lemmas.List.{append-nil}
use Rattle.rpki_der.specs.Values.{IsUnambiguous}
use Rattle.rpki_der.proofs.Formats.{one_meant}
use Rattle.rpki_parts.specs.Keys.{KeyFields}
use Rattle.rpki_parts.specs.Signatures.{Verifies}
use Rattle.rpki_cert.specs.Certificates.{CertFields, IsCertificate}
use Rattle.rpki_path.specs.Paths.{IsMember, Member}
use Rattle.rpki_path.proofs.LongerPaths.{zip_more}
use Rattle.rpki_folder.specs.Folders.{FolderFields, cas_at, string_at}
use Rattle.rpki_folder.specs.Strangers.{HasCertificate}
use Rattle.rpki_folder.specs.Walks.{AreAdmitted, IsAmong, IsLastOf, IsLookedAt, StandsAt}
use Rattle.rpki_isolation.specs.PathShares.{IsOfOthers, LetsIn}
use Rattle.rpki_isolation.proofs.FolderPaths.{place_of}
use Rattle.rpki_isolation.proofs.RelatedLists.{zip_back}

-- ---- what is admitted

-- one more that is admitted below some
pub admitted_more : (A : List ℕ → ℕ → Type 0) (before front : List ℕ) (q : ℕ) → AreAdmitted A before front →
    A (before ++ front) q → AreAdmitted A before (front ++ q ∷ [])
admitted_more A before [] q h end = (subst (λ (l : List ℕ). A l q) (append-nil before) end, tt)
admitted_more A before (p ∷ front) q h end = (
  h.0,
  admitted_more A (before ++ p ∷ []) front q h.1
      (subst (λ (l : List ℕ). A l q) (sym (append_assoc before (p ∷ []) front)) end),
)

-- the last of some that are
pub admitted_last : (A : List ℕ → ℕ → Type 0) (before front : List ℕ) (q : ℕ) →
    AreAdmitted A before (front ++ q ∷ []) → A (before ++ front) q
admitted_last A before [] q h = subst (λ (l : List ℕ). A l q) (sym (append-nil before)) h.0
admitted_last A before (p ∷ front) q h = subst (λ (l : List ℕ). A l q) (append_assoc before (p ∷ []) front)
    (admitted_last A (before ++ p ∷ []) front q h.1)

-- and those before it
pub admitted_front : (A : List ℕ → ℕ → Type 0) (before front : List ℕ) (q : ℕ) →
    AreAdmitted A before (front ++ q ∷ []) → AreAdmitted A before front
admitted_front A before [] q h = tt
admitted_front A before (p ∷ front) q h = (h.0, admitted_front A (before ++ p ∷ []) front q h.1)

-- ---- what is looked at

-- the certificate at the one place of the first folder is that at the other of the second
abbrev pub IsSame : List (List ℕ) → List (List ℕ) → ℕ → ℕ → Type 0
IsSame certs others k j = (c : CertFields) × StandsAt certs k c × StandsAt others j c

module _ (certs others : List (List ℕ)) where
  abbrev Same : ℕ → ℕ → Type 0
  Same = IsSame certs others

  -- of two lists of places for the CAs of one path
  pub same_path : (ms : List Member) (ks js : List ℕ) → AllZip IsMember ms (cas_at certs ks) →
      AllZip IsMember ms (cas_at others js) → AllZip Same ks js
  same_path [] [] [] h i = tt
  same_path [] (k ∷ ks) js h i = absurd h
  same_path [] [] (j ∷ js) h i = absurd i
  same_path (m ∷ ms) [] js h i = absurd h
  same_path (m ∷ ms) (k ∷ ks) [] h i = absurd i
  same_path (m ∷ ms) (k ∷ ks) (j ∷ js) h i = ((m.cert, h.0.begins, i.0.begins), same_path ms ks js h.1 i.1)

  module _ (law : IsUnambiguous IsCertificate) where
    -- what stands at the one stands at the other
    back_at : (k j : ℕ) → Same k j → (c : CertFields) → StandsAt others j c → StandsAt certs k c
    back_at k j same c stands =
        let one : same.0 ≡ c = one_meant IsCertificate law same.0 c (string_at others j) same.2 stands in
        subst (λ (d : CertFields). StandsAt certs k d) one same.1

    last_back : (top : CertFields) (ks js : List ℕ) → AllZip Same ks js → (c : CertFields) →
        IsLastOf top others js c → IsLastOf top certs ks c
    last_back top [] [] h c is = is
    last_back top [] (j ∷ js) h c is = absurd h
    last_back top (k ∷ ks) [] h c is = absurd h
    last_back top (k ∷ []) (j ∷ []) h c is = back_at k j h.0 c is
    last_back top (k ∷ []) (j ∷ i ∷ js) h c is = absurd h.1
    last_back top (k ∷ n ∷ ks) (j ∷ []) h c is = absurd h.1
    last_back top (k ∷ n ∷ ks) (j ∷ i ∷ js) h c is = last_back top (n ∷ ks) (i ∷ js) h.1 c is

    -- the last of the second, and those before it, are of the first
    record Split (ks before : List ℕ) (place : ℕ) : Type 0 where
      front : List ℕ
      end : ℕ
      parts : ks ≡ front ++ end ∷ []
      fronts : AllZip Same front before
      ends : Same end place

    split_back : (ks js before : List ℕ) (place : ℕ) → AllZip Same ks js → js ≡ before ++ place ∷ [] → Split ks before place
    split_back [] [] [] place h e = absurd (cc e)
    split_back [] [] (b ∷ before) place h e = absurd (cc e)
    split_back [] (j ∷ js) before place h e = absurd h
    split_back (k ∷ ks) [] before place h e = absurd h
    split_back (k ∷ []) (j ∷ []) [] place h e = let heads : j ≡ place = cc e in
        record { front = []; end = k; parts = refl; fronts = tt; ends = subst (λ (n : ℕ). Same k n) heads h.0 }
    split_back (k ∷ n ∷ ks) (j ∷ []) [] place h e = absurd h.1
    split_back (k ∷ ks) (j ∷ i ∷ js) [] place h e = absurd (cc e)
    split_back (k ∷ ks) (j ∷ js) (b ∷ before) place h e =
        let heads : j ≡ b = cc e in
        let tails : js ≡ before ++ place ∷ [] = cc e in
        let r = split_back ks js before place h.1 tails in
        record {
          front = k ∷ r.front;
          end = r.end;
          parts = ap (λ (l : List ℕ). k ∷ l) r.parts;
          fronts =
              (subst (λ (n : ℕ). Same k n) heads h.0, r.fronts);
          ends = r.ends;
        }

    among_back : (top : CertFields) (ks js : List ℕ) → AllZip Same ks js → (c : CertFields) →
        IsAmong top others js c → IsAmong top certs ks c
    among_back top ks js h c (inl is) = inl is
    among_back top ks js h c (inr (j, at, stands)) = let k = zip_back Same ks js h j at in inr (k.0, k.1, back_at k.0 j k.2 c stands)

    pub looked_there : (names : Bool) (admits lets : List ℕ → ℕ → Type 0) (top : CertFields) (ks js : List ℕ) →
        AllZip Same ks js → (k j : ℕ) → Same k j → lets js j
        → IsLookedAt names admits top certs ks k → IsLookedAt names lets top others js j
    looked_there names admits lets top ks js h k j same admitted looks = record {
      admitted = admitted;
      named = λ issuer is asks c stands. looks.named issuer (last_back top ks js h issuer is) asks c (back_at k j same c stands);
      no_circle = λ before place is c stands repeated.
          let s = split_back ks js before place h is in
          looks.no_circle s.front s.end s.parts c (back_at s.end place s.ends c stands)
          (repeated.0, among_back top s.front before s.fronts repeated.0 repeated.1, repeated.2);
    }

-- ---- down a path

module _ (verifies : Verifies) (keys : List KeyFields) (law : IsUnambiguous IsCertificate) (names : Bool)
    (top : CertFields) (certs : List (List ℕ)) (admits : List ℕ → ℕ → Type 0) (b : FolderFields)
    (lets : List ℕ → ℕ → Type 0) (lets_in : LetsIn verifies keys b.certs lets) where
  -- places below those that are there, at which a walk looks at these CAs
  pub record Down (ms : List Member) (js : List ℕ) : Type 0 where
    pub places : List ℕ
    pub members : AllZip IsMember ms (cas_at b.certs places)
    pub looked : AreAdmitted (IsLookedAt names lets top b.certs) js places

  -- where another walk looks at them, which others signed, so does this one
  pub looked_down : (ms : List Member) → AllByRecursion (λ (m : Member). HasCertificate b m.cert) ms →
      AllByRecursion (λ (m : Member). IsOfOthers verifies keys m.cert) ms → (ks more js : List ℕ) →
      AllZip (IsSame certs b.certs) ks js → AllZip IsMember ms (cas_at certs more)
      → AreAdmitted (IsLookedAt names admits top certs) ks more → Down ms js
  looked_down [] has others ks more js h zip looked = record { places = []; members = tt; looked = tt }
  looked_down (m ∷ ms) has others ks [] js h zip looked = absurd zip
  looked_down (m ∷ ms) has others ks (k ∷ more) js h zip looked =
      let at = place_of b m.cert has.0 in
      let j = lets_in m.cert others.0 at.0 at.1 js in
      let same : IsSame certs b.certs k j.0 = (m.cert, zip.0.begins, j.1) in
      let r = looked_down ms has.1 others.1 (ks ++ k ∷ []) more (js ++ j.0 ∷ [])
      (zip_more (IsSame certs b.certs) ks js k j.0 h same) zip.1 looked.1 in
      record {
        places = j.0 ∷ r.places;
        members = (record { kind_is = zip.0.kind_is; begins = j.1 }, r.members);
        looked = (looked_there certs b.certs law names admits lets top ks js h k j.0 same j.2 looked.0, r.looked);
      }
