-- A path has the same verdict by another one who is asked for revocation, where the checks of the
-- certificates on it are the same.
use Rattle.std.specs.Prelude.{◌↔◌, Contains, Option, Some, None, Result, Ok, Err, slice_index_or}
use Rattle.std.specs.List.{AllZip}
use Rattle.std.proofs.Common.{◌+◌, ◌<◌, ℕ, zero, suc, List, [], ◌∷◌, ◌++◌, length, map, add-one, refl, sym, subst}
use Rattle.std.proofs.Common.{inl, inr, arith}
use Rattle.std.proofs.lemmas.List.Elements.{Contains-append_left, Contains-append_right}
use Rattle.rpki_ext.specs.Kinds.{Means}
use Rattle.rpki_cert.specs.Certificates.{CertFields, IsCertificate, TbsFields}
use Rattle.rpki_cert.specs.Verification.{CheckUnder, Context, ResourceFields, issued_checks, router_checks}
use Rattle.rpki_cert.specs.declared.inspect.Kind.{Kind}
use Rattle.rpki_cert.specs.declared.inspect.Kind.TheVariants.{Router}
use Rattle.rpki_cert.specs.declared.verification_error.VerificationError.{VerificationError}
use Rattle.rpki_cert.proofs.Checks.{all_map, first_map}
use Rattle.rpki_crl.specs.Revocation.{revocation_checks}
use Rattle.rpki_crl.specs.declared.revocation_error.RevocationError.{RevocationError}
use Rattle.rpki_path.specs.Asking.{RevocationChecks}
use Rattle.rpki_path.specs.GivenPaths.{PathStrings}
use Rattle.rpki_path.specs.Judging.{IsAcceptedWith, IsFaultOf, IsFaultOfRouter, IsRouterIfAny, Judges}
use Rattle.rpki_path.specs.NameChains.{router_candidates, strings_below}
use Rattle.rpki_path.specs.Paths.{Candidate, CheckBelow, IsAccepted, IsFaultBelow, IsMember, IsPathOf, IsValidPath}
use Rattle.rpki_path.specs.Paths.{Member, Path, UnlessMemory, Finds, candidate, certificate_at, last}
use Rattle.rpki_path.specs.declared.judging.Judged.{Judged}
use Rattle.rpki_path.specs.declared.path_fault.PathError.{PathError}
use Rattle.rpki_path.specs.declared.path_fault.PathFault.{PathFault}
use Rattle.rpki_path.specs.declared.path_fault.PathFault.TheVariants.{Decode, Inspect, Verify, Revocation, Memory}

-- the checks of each certificate that one of these strings begins with are the same, below whatever
-- issuer
abbrev pub AskAlike : List Candidate → RevocationChecks → RevocationChecks → Type 0
AskAlike strings asked other =
    (s : Candidate) → Contains strings s → (c : CertFields) → Means IsCertificate c s.octets
    → (issuer : TbsFields) (e : RevocationError) → asked issuer c e ↔ other issuer c e

turned : (strings : List Candidate) (asked other : RevocationChecks) → AskAlike strings asked other →
    AskAlike strings other asked
turned strings asked other alike s there c begins issuer e = let h = alike s there c begins issuer e in (h.1, h.0)

in_front : (before after : List Candidate) (asked other : RevocationChecks) →
    AskAlike (before ++ after) asked other → AskAlike before asked other
in_front before after asked other alike s there = alike s (Contains-append_left before after s there)

behind : (before after : List Candidate) (asked other : RevocationChecks) → AskAlike (before ++ after) asked other →
    AskAlike after asked other
behind before after asked other alike s there = alike s (Contains-append_right before after s there)

-- the string of a member
string_of : (ms : List Member) (ss : List Candidate) → AllZip IsMember ms ss → (i : ℕ) → i < length ms →
    (d : CertFields)
    → (s : Candidate) × Contains ss s × Means IsCertificate (slice_index_or (map (λ m. m.cert) ms) i d) s.octets
string_of [] ss are i low d = absurd (omega (arith, low))
string_of (m ∷ ms) [] are i low d = absurd are
string_of (m ∷ ms) (s ∷ ss) are zero low d = (s, (0, omega arith, refl), are.0.begins)
string_of (m ∷ ms) (s ∷ ss) are (suc i) low d =
    let (t, there, begins) = string_of ms ss are.1 i (omega (arith, low)) d in
    (t, Contains-append_right (s ∷ []) ss t there, begins)

module _ (x : Context) (asked other : RevocationChecks) where
  valid_so : (anchor : List ℕ) (below : List Candidate) (p : Path) → IsPathOf anchor below p →
      AskAlike below asked other → IsValidPath x asked p → IsValidPath x other p
  valid_so anchor below p of alike h = record {
    anchor_meets = h.anchor_meets;
    members_meet = h.members_meet;
    anchor_verified = h.anchor_verified;
    members_verified = h.members_verified;
    members_unrevoked = λ i low.
        let issuer = (certificate_at p i).fields in
        let c = certificate_at p (i + 1) in
        let (s, there, begins) = string_of p.below below of.members i low p.anchor in
        let here : Means IsCertificate c s.octets =
        subst (λ (n : ℕ). Means IsCertificate (certificate_at p n) s.octets) (sym (add-one i)) begins in
        all_map (asked issuer c) (other issuer c) revocation_checks (λ e. (alike s there c here issuer e).0)
        (h.members_unrevoked i low);
  }

  accepted_so : (anchor : List ℕ) (below : List Candidate) (tal : List ℕ) (r : ResourceFields) →
      AskAlike below asked other → IsAccepted x asked anchor below tal r → IsAccepted x other anchor below tal r
  accepted_so anchor below tal r alike h =
      record {
        path = h.path;
        path_of = h.path_of;
        is_valid = valid_so anchor below h.path h.path_of alike
            h.is_valid;
        held = h.held;
      }

  router_so : (holder : ResourceFields) (octets : Option (List ℕ)) (c : Option CertFields) →
      AskAlike (router_candidates octets) asked other → IsRouterIfAny x asked holder octets c →
      IsRouterIfAny x other holder octets c
  router_so holder None None alike h = tt
  router_so holder None (Some c) alike h = absurd h
  router_so holder (Some octets) None alike h = absurd h
  router_so holder (Some octets) (Some c) alike h = (
    h.0,
    record {
      meets = h.1.meets;
      checks = h.1.checks;
      unrevoked = all_map (asked holder.cert.fields c) (other holder.cert.fields c) revocation_checks
          (λ e. (alike (candidate Router octets) (0, omega arith, refl) c h.0 holder.cert.fields e).0)
          h.1.unrevoked;
    },
  )

  with_so : (g : PathStrings) (j : Judged) → AskAlike (strings_below g) asked other → IsAcceptedWith x asked g j →
      IsAcceptedWith x other g j
  with_so g j alike h = record {
    accepted = accepted_so g.anchor g.below [] j.holder
        (in_front g.below (router_candidates g.router) asked other alike) h.accepted;
    router = router_so j.holder g.router j.router (behind g.below (router_candidates g.router) asked other alike)
        h.router;
  }

  module _ (kind : Kind) (check : CertFields → VerificationError → Type 0) (checks : List VerificationError)
      (issuer : TbsFields) (octets : List ℕ)
      (alike : (c : CertFields) → Means IsCertificate c octets → (e : RevocationError) →
      asked issuer c e ↔ other issuer c e) where
    finds_so : (f : PathFault) →
        Finds x (record { kind = kind; check = check; checks = checks; asked_check = asked issuer }) octets f →
        Finds x (record { kind = kind; check = check; checks = checks; asked_check = other issuer }) octets f
    finds_so (Decode e) h = h
    finds_so (Inspect e) h = h
    finds_so (Verify e) h = h
    finds_so (Revocation e) h = record {
      cert = h.cert;
      begins = h.begins;
      meets = h.meets;
      verified = h.verified;
      first = first_map (asked issuer h.cert) (other issuer h.cert) revocation_checks e (alike h.cert h.begins) h.first;
    }
    finds_so Memory h = h

  fault_below_so : (anchor : List ℕ) (below : List Candidate) (e : PathError) → AskAlike below asked other →
      IsFaultBelow x asked anchor below e → IsFaultBelow x other anchor below e
  fault_below_so anchor below e alike h =
      let parted = subst (λ (l : List Candidate). AskAlike l asked other) h.parts alike in
      let there = behind h.before (h.there ∷ h.after) asked other parted in
      record {
        before = h.before;
        there = h.there;
        after = h.after;
        parts = h.parts;
        path = h.path;
        path_of = h.path_of;
        is_valid = valid_so anchor h.before h.path h.path_of
            (in_front h.before (h.there ∷ h.after) asked other parted) h.is_valid;
        index_is = h.index_is;
        fault_is = finds_so h.there.kind (CheckBelow x h.path (last h.path)) issued_checks
            (certificate_at h.path (last h.path)).fields h.there.octets
            (λ c begins d. there h.there (0, omega arith, refl) c begins
            (certificate_at h.path (last h.path)).fields d) e.fault h.fault_is;
      }

  fault_router_so : (g : PathStrings) (e : PathError) → AskAlike (strings_below g) asked other →
      IsFaultOfRouter x asked g e → IsFaultOfRouter x other g e
  fault_router_so g e alike h =
      let last = subst (λ (o : Option (List ℕ)). AskAlike (router_candidates o) asked other) h.router_is
      (behind g.below (router_candidates g.router) asked other alike) in
      record {
        octets = h.octets;
        router_is = h.router_is;
        issuer = h.issuer;
        accepted = accepted_so g.anchor g.below [] h.issuer
            (in_front g.below (router_candidates g.router) asked other alike) h.accepted;
        index_is = h.index_is;
        fault_is = finds_so Router (CheckUnder x h.issuer) router_checks h.issuer.cert.fields h.octets
            (λ c begins d. last (candidate Router h.octets) (0, omega arith, refl) c begins h.issuer.cert.fields
            d) e.fault h.fault_is;
      }

  fault_so : (g : PathStrings) (e : PathError) → AskAlike (strings_below g) asked other → IsFaultOf x asked g e →
      IsFaultOf x other g e
  fault_so g e alike (inl (inl anchor)) = inl (inl anchor)
  fault_so g e alike (inl (inr below)) =
      inl (inr (fault_below_so g.anchor g.below e
      (in_front g.below (router_candidates g.router) asked other alike) below))
  fault_so g e alike (inr router) = inr (fault_router_so g e alike router)

unless : {P Q : Type 0} (f : PathFault) → (P → Q) → UnlessMemory f P → UnlessMemory f Q
unless Memory go h = h
unless (Decode e) go h = go h
unless (Inspect e) go h = go h
unless (Verify e) go h = go h
unless (Revocation e) go h = go h

-- the verdict is the same
pub same_verdict : (x : Context) (asked other : RevocationChecks) (g : PathStrings) →
    AskAlike (strings_below g) asked other → (r : Result Judged PathError) → Judges x asked g r →
    Judges x other g r
same_verdict x asked other g alike (Ok j) h = with_so x asked other g j alike h
same_verdict x asked other g alike (Err e) h =
    unless e.fault (λ is. (
      (λ j accepted. is.0 j (with_so x other asked g j (turned (strings_below g) asked other alike) accepted)),
      fault_so x asked other g e alike is.1,
    )) h
