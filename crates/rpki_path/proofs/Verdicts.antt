-- The verdict on a path below whose members a router may stand, from those on the members and on
-- the router.
use Rattle.std.specs.Prelude.{Option, None, Some}
use Rattle.std.proofs.Common.{◌≡◌, ◌+◌, ◌<◌, ℕ, List, [], ◌∷◌, length, Err, sym, ap, subst, ◌∙◌, inl, inr, arith}
use Rattle.std.proofs.lemmas.List.{length-append}
use Rattle.rpki_der.specs.Values.{IsUnambiguous}
use Rattle.rpki_ext.specs.Kinds.{Means}
use Rattle.rpki_cert.specs.Certificates.{CertFields, IsCertificate}
use Rattle.rpki_cert.specs.Verification.{Context, ResourceFields, CheckUnder, router_checks}
use Rattle.rpki_cert.specs.declared.verification_error.VerificationError.{VerificationError}
use Rattle.rpki_cert.proofs.Checks.{all_map}
use Rattle.rpki_path.specs.Asking.{RevocationChecks, IsUnrevokedBy}
use Rattle.rpki_path.specs.declared.judging.Judged.{Judged}
use Rattle.rpki_path.specs.declared.path_fault.PathError.{PathError}
use Rattle.rpki_path.specs.GivenPaths.{PathStrings, router_count, string_count}
use Rattle.rpki_path.specs.Judging.{IsRouterIfAny, IsAcceptedWith, Judges}
use Rattle.rpki_path.specs.Paths.{Path, Candidate, Finds, IsFault, IsAccepted, HasHeld}
use Rattle.rpki_path.specs.Routers.{IsRouterUnder, BeginsWithRouter, router_demand}
use Rattle.rpki_path.proofs.Rejections.{one_path, no_valid_path, unless_weaker}
use Rattle.rpki_path.proofs.Routers.{no_router}
use Rattle.rpki_path.proofs.ValidPaths.{check_last}

module _ (x : Context) (asked : RevocationChecks) (g : PathStrings) where
  -- what is wrong of the members is wrong of the path
  pub wrong_above : IsUnambiguous IsCertificate → (e : PathError) → IsFault x asked g.anchor g.below e →
      Judges x asked g (Err e)
  wrong_above law e fault =
      unless_weaker e.fault
      (λ none. ((λ j a. none a.accepted.path a.accepted.path_of a.accepted.is_valid), inl fault))
      (no_valid_path x asked law g.anchor g.below e fault)

  -- the members alone, where there is no router
  pub ends_here : g.router ≡ None → (r : ResourceFields) → IsAccepted x asked g.anchor g.below [] r →
      IsAcceptedWith x asked g (record { holder = r; router = None })
  ends_here is r a = record {
    accepted = a;
    router = subst (λ (o : Option (List ℕ)). IsRouterIfAny x asked r o None)
        (sym is) tt;
  }

  -- a router's certificate that was answered begins the router's string
  router_begins : (octets : List ℕ) → g.router ≡ Some octets → (r : ResourceFields) (o : Option CertFields) →
      IsRouterIfAny x asked r (Some octets) o → BeginsWithRouter x asked r octets
  router_begins octets is r (Some c) h = record { cert = c; begins = h.0; under = h.1 }
  router_begins octets is r None h = absurd h

  module _ (law : IsUnambiguous IsCertificate) (octets : List ℕ) (is : g.router ≡ Some octets)
      (issuer : ResourceFields) (a : IsAccepted x asked g.anchor g.below [] issuer) where
    -- two answers of one path have the same numbers, so that the same holds of the router
    same_below : (r : ResourceFields) → IsAccepted x asked g.anchor g.below [] r →
        (c : CertFields) (l : VerificationError) → CheckUnder x r c l → CheckUnder x issuer c l
    same_below r b c l true =
        let paths : a.path ≡ b.path = one_path law g.anchor g.below a.path b.path a.path_of b.path_of in
        let held : HasHeld b.path [] issuer = subst (λ (p : Path). HasHeld p [] issuer) paths a.held in
        (check_last x b.path [] issuer held c l).1 ((check_last x b.path [] r b.held c l).0 true)

    same_cert : (r : ResourceFields) → IsAccepted x asked g.anchor g.below [] r → r.cert ≡ issuer.cert
    same_cert r b =
        let paths : a.path ≡ b.path = one_path law g.anchor g.below a.path b.path a.path_of b.path_of in
        let held : HasHeld b.path [] issuer = subst (λ (p : Path). HasHeld p [] issuer) paths a.held in
        b.held.cert_is ∙ sym held.cert_is

    -- a router that is valid below one of them is valid below the other
    router_below : (j : Judged) → IsAcceptedWith x asked g j → BeginsWithRouter x asked issuer octets
    router_below j h =
        let r = j.holder in
        let b : BeginsWithRouter x asked r octets =
        router_begins octets is r j.router
        (subst (λ (o : Option (List ℕ)). IsRouterIfAny x asked r o j.router) is h.router) in
        let c = b.cert in
        record {
          cert = c;
          begins = b.begins;
          under = record {
            meets = b.under.meets;
            checks = all_map (CheckUnder x r c) (CheckUnder x issuer c) router_checks (same_below r h.accepted c)
                b.under.checks;
            unrevoked = subst (λ (i : CertFields). IsUnrevokedBy asked i.fields c) (same_cert r h.accepted)
                b.under.unrevoked;
          };
        }

    -- a router that is valid below an accepted path is accepted with it
    pub ends_below : (c : CertFields) → Means IsCertificate c octets → IsRouterUnder x asked issuer c →
        IsAcceptedWith x asked g (record { holder = issuer; router = Some c })
    ends_below c begins under =
        record {
          accepted = a;
          router = subst (λ (o : Option (List ℕ)). IsRouterIfAny x asked issuer o (Some c))
              (sym is) (begins, under);
        }

    -- what is wrong of the router is wrong of the path
    pub wrong_below : (e : PathError) → e.index ≡ length g.below + 1 →
        Finds x (router_demand x asked issuer) octets e.fault → Judges x asked g (Err e)
    wrong_below e index found =
        unless_weaker e.fault (λ no. (
          (λ j h. no (router_below j h)),
          inr (record {
            octets = octets;
            router_is = is;
            issuer = issuer;
            accepted = a;
            index_is = index;
            fault_is = found;
          }),
        )) (no_router x asked issuer law octets e.fault found)

  -- ---- places

  -- the place of a fault of the members is that of a string
  pub place_above : (e : PathError) → IsFault x asked g.anchor g.below e → e.index < string_count g
  place_above e (inl h) = omega (arith, h.index_is)
  place_above e (inr h) =
      let parts : length g.below ≡ length h.before + length (h.there ∷ h.after) =
      ap (λ (l : List Candidate). length l) h.parts ∙ length-append h.before (h.there ∷ h.after) in
      omega (arith, h.index_is, parts)

-- and so is that of the router
pub place_below : (g : PathStrings) (octets : List ℕ) → g.router ≡ Some octets → (n : ℕ) → n ≡ length g.below + 1 →
    n < string_count g
place_below g octets is n index = let one : router_count g.router ≡ 1 = ap router_count is in omega (arith, one, index)
