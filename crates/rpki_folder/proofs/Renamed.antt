-- The same certificates at other places, and the same lists in another order.
use Rattle.std.specs.Prelude.{Some, Bool, Contains}
use Rattle.std.proofs.Common.{◌≡◌, ℕ, zero, suc, List, [], ◌∷◌, ◌++◌, map, refl, sym, ap, subst, ◌∙◌, inl, inr, arith}
use Rattle.std.proofs.lemmas.List.{map-append}
use Rattle.rpki_cert.specs.Certificates.{TbsFields, CertFields}
use Rattle.rpki_cert.specs.Verification.{Context, ResourceFields}
use Rattle.rpki_cert.specs.declared.inspect.Kind.{Kind}
use Rattle.rpki_cert.specs.declared.inspect.Kind.TheVariants.{Anchor, Authority, EndEntity, Detached, Router}
use Rattle.rpki_path.specs.Asking.{RevocationChecks, IsUnrevokedBy}
use Rattle.rpki_path.specs.declared.judging.Judged.{Judged}
use Rattle.rpki_path.specs.Paths.{Candidate, candidate}
use Rattle.rpki_path.proofs.AskedAlike.{accepted_too, router_too}
use Rattle.rpki_folder.specs.Folders.{string_at, cas_at}
use Rattle.rpki_cert.specs.SaidKinds.{BeginsWithKind}
use Rattle.rpki_folder.specs.Walks.{Root, members_at, LeadsTo, IsAcceptedAs, IsReached, StandsAt, IsAmong, IsLastOf}
use Rattle.rpki_folder.specs.Walks.{EndsNoCircle, IsLookedAt, AreAdmitted}

module _ (certs others : List (List ℕ)) (moved : ℕ → ℕ) (same : (place : ℕ) →
    string_at others (moved place) ≡ string_at certs place) where
  same_cas : (places : List ℕ) → cas_at others (map moved places) ≡ cas_at certs places
  same_cas [] = refl
  same_cas (place ∷ places) =
      ap (λ (octets : List ℕ). candidate Authority octets ∷ cas_at others (map moved places)) (same place)
      ∙ ap (λ (l : List Candidate). candidate Authority (string_at certs place) ∷ l) (same_cas places)

  pub reached_there : (x : Context) (asked : RevocationChecks) (root : Root) (above : List ℕ) (place : ℕ) →
      IsReached x asked root certs above place → IsReached x asked root others (map moved above) (moved place)
  reached_there x asked root above place h =
      let members : members_at root others (map moved above) ≡ members_at root certs above =
      ap (λ (l : List Candidate). root.before ++ l) (same_cas above) in
      let octets = sym (same place) in (
        h.0,
        h.1,
        subst (λ (o : List ℕ). BeginsWithKind h.0 o) octets h.2,
        subst (λ (l : List Candidate). IsAcceptedAs x asked root l h.0 (string_at others (moved place)) h.1)
            (sym members)
            (subst (λ (o : List ℕ). IsAcceptedAs x asked root (members_at root certs above) h.0 o h.1) octets h.3),
      )

-- who is asked leaves at least the same certificates unrevoked
module _ (x : Context) (asked other : RevocationChecks) (leaves : (issuer : TbsFields) (c : CertFields) →
    IsUnrevokedBy asked issuer c → IsUnrevokedBy other issuer c) (root : Root) where
  leads_too : (members : List Candidate) (r : ResourceFields) → LeadsTo x asked root members r →
      LeadsTo x other root members r
  leads_too members r = accepted_too x asked other leaves root.tal root.anchor members r

  as_too : (members : List Candidate) (kind : Kind) (octets : List ℕ) (j : Judged) →
      IsAcceptedAs x asked root members kind octets j → IsAcceptedAs x other root members kind octets j
  as_too members Router octets j h =
      (leads_too members j.holder h.0, router_too x asked other leaves j.holder (Some octets) j.router h.1)
  as_too members Anchor octets j h = (leads_too (members ++ candidate Anchor octets ∷ []) j.holder h.0, h.1)
  as_too members Authority octets j h = (leads_too (members ++ candidate Authority octets ∷ []) j.holder h.0, h.1)
  as_too members EndEntity octets j h = (leads_too (members ++ candidate EndEntity octets ∷ []) j.holder h.0, h.1)
  as_too members Detached octets j h = (leads_too (members ++ candidate Detached octets ∷ []) j.holder h.0, h.1)

  pub reached_too : (certs : List (List ℕ)) (above : List ℕ) (place : ℕ) →
      IsReached x asked root certs above place → IsReached x other root certs above place
  reached_too certs above place h =
      (h.0, h.1, h.2, as_too (members_at root certs above) h.0 (string_at certs place) h.1 h.3)

-- ---- what is looked at

-- a list that ends so, of places that were moved
no_end : (before : List ℕ) (place : ℕ) → [] ≡ before ++ place ∷ [] → ⊥
no_end [] place e = absurd (cc e)
no_end (p ∷ before) place e = absurd (cc e)

module _ (moved : ℕ → ℕ) where
  record Parted (above before : List ℕ) (place : ℕ) : Type 0 where
    front : List ℕ
    end : ℕ
    parts : above ≡ front ++ end ∷ []
    front_is : map moved front ≡ before
    end_is : moved end ≡ place

  parted : (above before : List ℕ) (place : ℕ) → map moved above ≡ before ++ place ∷ [] → Parted above before place
  parted [] before place e = absurd (no_end before place e)
  parted (p ∷ []) [] place e = record { front = []; end = p; parts = refl; front_is = refl; end_is = cc e }
  parted (p ∷ []) (z ∷ before) place e = absurd (no_end before place (cc e))
  parted (p ∷ q ∷ more) [] place e = absurd (cc e)
  parted (p ∷ q ∷ more) (z ∷ before) place e =
      let head : moved p ≡ z = cc e in
      let tail : map moved (q ∷ more) ≡ before ++ place ∷ [] = cc e in
      let r = parted (q ∷ more) before place tail in
      record {
        front = p ∷ r.front;
        end = r.end;
        parts = ap (λ (l : List ℕ). p ∷ l) r.parts;
        front_is = ap (λ (n : ℕ). n ∷ map moved r.front) head ∙ ap (λ (l : List ℕ). z ∷ l) r.front_is;
        end_is = r.end_is;
      }

  preimage : (places : List ℕ) (p : ℕ) → Contains (map moved places) p → (q : ℕ) × Contains places q × (moved q ≡ p)
  preimage [] p (n, low, is) = absurd (omega (arith, low))
  preimage (r ∷ places) p (zero, low, is) = (r, (0, omega arith, refl), is)
  preimage (r ∷ places) p (suc n, low, is) =
      let k = preimage places p (n, omega (arith, low), is) in
      (k.0, (suc k.1.0, omega (arith, k.1.1), k.1.2), k.2)

  -- what stands at a place that was moved stood there before
  module _ (certs others : List (List ℕ)) (stood : (place : ℕ) (c : CertFields) → StandsAt others (moved place) c →
      StandsAt certs place c) (names : Bool) (top : CertFields) where
    last_back : (above : List ℕ) (c : CertFields) → IsLastOf top others (map moved above) c → IsLastOf top certs above c
    last_back [] c h = h
    last_back (p ∷ []) c h = stood p c h
    last_back (p ∷ q ∷ more) c h = last_back (q ∷ more) c h

    among_back : (places : List ℕ) (d : CertFields) → IsAmong top others (map moved places) d →
        IsAmong top certs places d
    among_back places d (inl is) = inl is
    among_back places d (inr (p, at, stands)) =
        let k = preimage places p at in
        inr (k.0, k.1, stood k.0 d (subst (λ (n : ℕ). StandsAt others n d) (sym k.2) stands))

    circle_there : (above : List ℕ) → EndsNoCircle names top certs above →
        EndsNoCircle names top others (map moved above)
    circle_there above none = λ before place is c stands repeated.
        let r = parted above before place is in
        let there = stood r.end c (subst (λ (n : ℕ). StandsAt others n c) (sym r.end_is) stands) in
        let among : IsAmong top others (map moved r.front) repeated.0 =
        subst (λ (l : List ℕ). IsAmong top others l repeated.0) (sym r.front_is) repeated.1 in
        none r.front r.end r.parts c there (repeated.0, among_back r.front repeated.0 among, repeated.2)

    looked_there : (above : List ℕ) (place : ℕ) → IsLookedAt names (λ l p. Unit {0}) top certs above place →
        IsLookedAt names (λ l p. Unit {0}) top others (map moved above) (moved place)
    looked_there above place h = record {
      admitted = tt;
      named = λ issuer last asks c stands. h.named issuer (last_back above issuer last) asks c (stood place c stands);
      no_circle = circle_there above h.no_circle;
    }

    -- the certificates of a path that was looked at are there
    pub all_looked_there : (above places : List ℕ) →
        AreAdmitted (IsLookedAt names (λ l p. Unit {0}) top certs) above places →
        AreAdmitted (IsLookedAt names (λ l p. Unit {0}) top others) (map moved above) (map moved places)
    all_looked_there above [] h = tt
    all_looked_there above (p ∷ places) h = (
      looked_there above p h.0,
      subst (λ (l : List ℕ). AreAdmitted (IsLookedAt names (λ l p. Unit {0}) top others) l (map moved places))
          (map-append moved above (p ∷ [])) (all_looked_there (above ++ p ∷ []) places h.1),
    )
