-- Valid paths from a locator that go on through a folder.
use Rattle.std.specs.List.{AllByRecursion}
use Rattle.std.specs.Prelude.{Bool, Option, None, Some, IsSome, IfSome}
use Rattle.std.proofs.Common.{◌≡◌, ◌≢◌, ◌+◌, ◌<◌, ◌≤◌, ℕ, List, [], ◌∷◌, ◌++◌, Ok, length, refl, sym, subst, ap}
use Rattle.std.proofs.Common.{◌∙◌, append_assoc, arith}
use Rattle.std.proofs.lemmas.List.{map-append, length-append}
use Rattle.rpki_der.specs.Values.{IsUnambiguous}
use Rattle.rpki_ext.specs.Kinds.{Means}
use Rattle.rpki_cert.specs.Certificates.{CertFields, IsCertificate}
use Rattle.rpki_cert.specs.Profiles.{MeetsProfile}
use Rattle.rpki_cert.specs.Verification.{Context, ResourceFields, IsSignedBy, IsVerified, issued_checks}
use Rattle.rpki_cert.specs.declared.inspect.Kind.{Kind}
use Rattle.rpki_cert.specs.declared.inspect.Kind.TheVariants.{Anchor, Authority, EndEntity, Detached, Router}
use Rattle.rpki_path.specs.Asking.{RevocationChecks}
use Rattle.rpki_path.specs.declared.judging.Judged.{Judged}
use Rattle.rpki_path.specs.declared.path_fault.PathFault.{PathFault}
use Rattle.rpki_path.specs.declared.path_fault.PathFault.TheVariants.{Decode, Inspect, Verify, Revocation, Memory}
use Rattle.rpki_path.specs.declared.path_fault.PathError.{PathError}
use Rattle.rpki_path.specs.Paths.{Path, Member, Candidate, candidate, IsAccepted, HasHeld, last, certificate_at}
use Rattle.rpki_path.specs.Paths.{CheckBelow, Finds, UnlessMemory, IsNoValidPath}
use Rattle.rpki_path.specs.Paths.Steps.{IsIssuedBy, demand_under}
use Rattle.rpki_path.specs.Routers.{router_demand}
use Rattle.rpki_path.specs.GivenPaths.{PathStrings}
use Rattle.rpki_path.specs.Judging.{IsRouterIfAny}
use Rattle.rpki_path.specs.LocatedPaths.{BeginsWithKey, BeginsWithNumbers}
use Rattle.rpki_path.proofs.LongerPaths.{extended, above, there, all_at}
use Rattle.rpki_path.proofs.LocatedPaths.{located_headline}
use Rattle.rpki_path.proofs.ValidPaths.{one_more}
use Rattle.rpki_path.proofs.Rejections.{one_path, GoesOn, goes_on, fault_there, no_valid_path}
use Rattle.rpki_path.proofs.Verdicts.{wrong_below}
use Rattle.rpki_folder.specs.Folders.{string_at, cas_at}
use Rattle.rpki_cert.specs.SaidKinds.{BeginsWithKind}
use Rattle.rpki_folder.specs.Walks.{Root, members_at, LeadsTo, IsChildOf}
use Rattle.rpki_cert.proofs.SaidOnce.{authority_says}

-- ---- members at places

module _ (root : Root) (certs : List (List ℕ)) where
  abbrev ca : ℕ → Candidate
  ca place = candidate Authority (string_at certs place)

  -- with further places below them
  pub members_more : (above more : List ℕ) → members_at root certs (above ++ more) ≡ members_at root certs above ++
      cas_at certs more
  members_more above more =
      ap (λ (l : List Candidate). root.before ++ l) (map-append ca above more)
      ∙ sym (append_assoc root.before (cas_at certs above) (cas_at certs more))

  -- with one further place
  pub members_next : (above : List ℕ) (place : ℕ) →
      members_at root certs (above ++ place ∷ []) ≡ members_at root certs above ++ ca place ∷ []
  members_next above place = members_more above (place ∷ [])

-- ---- an accepted path

-- out of memory aside, what holds unless memory ran out
unless_holds : {P : Type 0} (e : PathFault) → e ≢ Memory → UnlessMemory e P → P
unless_holds (Decode e) apart h = h
unless_holds (Inspect e) apart h = h
unless_holds (Verify e) apart h = h
unless_holds (Revocation e) apart h = h
unless_holds Memory apart h = absurd (apart refl)

-- a value that is there, and is this one
pub some_is : {X : Type 0} (o : Option X) (x : X) → IsSome o → IfSome o (λ y. y ≡ x) → o ≡ Some x
some_is None x some is = absurd cc
some_is (Some y) x some is = ap (λ (z : _). Some z) is

-- each profile asks for it
pub one_algorithm_of : (strict : Bool) (kind : Kind) (c : CertFields) → MeetsProfile kind strict c →
    c.fields.algorithm ≡ c.signed_data.signature.algorithm
one_algorithm_of strict Anchor c h = h.0
one_algorithm_of strict Authority c h = h.0
one_algorithm_of strict EndEntity c h = h.0
one_algorithm_of strict Detached c h = h.0
one_algorithm_of strict Router c h = h.0

module _ (x : Context) (asked : RevocationChecks) (root : Root) (law : IsUnambiguous IsCertificate) where
  -- the same, with no locator
  abbrev accepted : (members : List Candidate) (r : ResourceFields) → LeadsTo x asked root members r →
      IsAccepted x asked root.anchor members root.tal.name r
  accepted members r a = record { path = a.path; path_of = a.path_of; is_valid = a.is_valid.is_valid; held = a.held }

  -- it goes on with a member that its last one issued
  pub leads_further : (members : List Candidate) (issuer : ResourceFields) → LeadsTo x asked root members issuer →
      (kind : Kind) (octets : List ℕ) (r : ResourceFields) → IsIssuedBy x asked issuer kind octets r
      → LeadsTo x asked root (members ++ candidate kind octets ∷ []) r
  leads_further members issuer a kind octets r is =
      let more = one_more x asked root.anchor members root.tal.name issuer kind octets r (accepted members issuer a)
      is in
      let key : BeginsWithKey root.tal.tal root.anchor =
      record { cert = a.path.anchor; begins = a.path_of.anchor_begins; key_is = a.is_valid.key_is } in
      let numbers : BeginsWithNumbers root.anchor =
      record { cert = a.path.anchor; begins = a.path_of.anchor_begins; lists = a.is_valid.lists } in
      located_headline x asked (members ++ candidate kind octets ∷ []) law root.tal root.anchor (Ok r)
      ((key, numbers), more) tt

  -- two that are the last of one path are one certificate
  pub one_holder : (members : List Candidate) (r s : ResourceFields) → LeadsTo x asked root members r →
      LeadsTo x asked root members s → r.cert ≡ s.cert
  one_holder members r s a b =
      let same : a.path ≡ b.path = one_path law root.anchor members a.path b.path a.path_of b.path_of in
      let held : HasHeld b.path root.tal.name r = subst (λ (p : Path). HasHeld p root.tal.name r) same a.held in
      held.cert_is ∙ sym b.held.cert_is

  -- ---- the member at which it goes on

  module _ (members : List Candidate) (issuer : ResourceFields) (a : LeadsTo x asked root members issuer)
      (kind : Kind) (octets : List ℕ) (after : List Candidate) (r : ResourceFields)
      (b : LeadsTo x asked root (members ++ candidate kind octets ∷ after) r) where
    abbrev on : GoesOn b.path a.path (candidate kind octets)
    on = goes_on law root.anchor members (candidate kind octets) after a.path a.path_of b.path b.path_of

    -- no fault of it is found
    pub no_fault : (e : PathFault) → e ≢ Memory → Finds x (demand_under x asked issuer kind) octets e → ⊥
    no_fault e apart found =
        let error : PathError = record { index = length members + 1; fault = e } in
        let fault = fault_there x asked root.anchor members kind octets after root.tal.name issuer
        (accepted members issuer a) error refl found in
        let none : IsNoValidPath x asked root.anchor (members ++ candidate kind octets ∷ after) =
        unless_holds e apart (no_valid_path x asked law root.anchor (members ++ candidate kind octets ∷ after) error
        fault) in
        none b.path b.path_of b.is_valid.is_valid

    -- it is a child of the issuer
    pub is_child : (certs : List (List ℕ)) (place : ℕ) → octets ≡ string_at certs place →
        IsChildOf x.verifies issuer.cert certs place
    is_child certs place stands =
        let q = a.path in
        let m = on.item in
        let all = extended q m on.more in
        let low : last q < last all = omega (arith, length-append q.below (m ∷ on.more)) in
        let same : last q ≤ last q = omega arith in
        let valid = subst (λ (y : Path). (i : ℕ) → i < last y →
        IsVerified (CheckBelow x y i (certificate_at y (i + 1))) issued_checks) on.path_is
        b.is_valid.is_valid.members_verified in
        let verified : IsVerified (CheckBelow x all (last q) m.cert) issued_checks =
        subst (λ (c : CertFields). IsVerified (CheckBelow x all (last q) c) issued_checks) (there q m on.more)
        (valid (last q) low) in
        let one : certificate_at all (last q) ≡ issuer.cert = above q m on.more (last q) same ∙ sym a.held.cert_is in
        let named : IfSome m.cert.fields.extensions.authority_key_identifier
        (λ id. id ≡ (certificate_at all (last q)).fields.extensions.subject_key_identifier) =
        verified.1.1.1.0 in
        let key = (certificate_at all (last q)).fields.extensions.subject_key_identifier in
        let is : key ≡ issuer.cert.fields.extensions.subject_key_identifier =
        ap (λ (c : CertFields). c.fields.extensions.subject_key_identifier) one in
        let meet = subst (λ (y : Path). AllByRecursion (λ (n : Member). MeetsProfile n.kind x.strict n.cert)
        y.below) on.path_is b.is_valid.is_valid.members_meet in
        let meets : MeetsProfile m.kind x.strict m.cert =
        all_at (λ (n : Member). MeetsProfile n.kind x.strict n.cert) a.path.below m on.more meet in
        record {
          cert = m.cert;
          stands = subst (λ (o : List ℕ). Means IsCertificate m.cert o) stands on.item_is.begins;
          names_key = some_is m.cert.fields.extensions.authority_key_identifier key verified.1.1.0 named ∙
              ap (λ (k : List ℕ). Some k) is;
          signed = subst (λ (c : CertFields). IsSignedBy x.verifies c.fields.key m.cert.signed_data) one
              verified.1.1.1.1.1.0;
          one_algorithm = one_algorithm_of x.strict m.kind m.cert meets;
        }

    -- where it is a CA, it says so
    pub says_authority : kind ≡ Authority → BeginsWithKind Authority octets
    says_authority is =
        let m = on.item in
        let valid = subst (λ (y : Path). AllByRecursion (λ (n : Member). MeetsProfile n.kind x.strict n.cert)
        y.below) on.path_is b.is_valid.is_valid.members_meet in
        let meets : MeetsProfile m.kind x.strict m.cert =
        all_at (λ (n : Member). MeetsProfile n.kind x.strict n.cert) a.path.below m on.more valid in
        let kinds : m.kind ≡ Authority = on.item_is.kind_is ∙ is in (
          m.cert,
          on.item_is.begins,
          authority_says x.strict m.cert (subst (λ (k : Kind). MeetsProfile k x.strict m.cert) kinds meets),
        )

  -- ---- a router below it

  -- what the last member holds, with no locator
  abbrev nameless : ResourceFields → ResourceFields
  nameless r = record { cert = r.cert; v4 = r.v4; v6 = r.v6; as_numbers = r.as_numbers; tal = [] }

  alone : (members : List Candidate) (r : ResourceFields) → LeadsTo x asked root members r →
      IsAccepted x asked root.anchor members [] (nameless r)
  alone members r a = record {
    path = a.path;
    path_of = a.path_of;
    is_valid = a.is_valid.is_valid;
    held = record {
      cert_is = a.held.cert_is;
      v4_is = a.held.v4_is;
      v6_is = a.held.v6_is;
      as_is =
          a.held.as_is;
      tal_is = refl;
    };
  }

  router_same : (r : ResourceFields) (octets : List ℕ) (o : Option CertFields) →
      IsRouterIfAny x asked r (Some octets) o → IsRouterIfAny x asked (nameless r) (Some octets) o
  router_same r octets None h = h
  router_same r octets (Some c) h = (h.0, record { meets = h.1.meets; checks = h.1.checks; unrevoked = h.1.unrevoked })

  router_child_of : (holder : ResourceFields) (octets : List ℕ) (o : Option CertFields) →
      IsRouterIfAny x asked holder (Some octets) o → (certs : List (List ℕ)) (place : ℕ) →
      octets ≡ string_at certs place
      → IsChildOf x.verifies holder.cert certs place
  router_child_of holder octets None h certs place stands = absurd h
  router_child_of holder octets (Some c) h certs place stands = record {
    cert = c;
    stands = subst (λ (o : List ℕ). Means IsCertificate c o) stands h.0;
    names_key = some_is c.fields.extensions.authority_key_identifier
        holder.cert.fields.extensions.subject_key_identifier h.1.checks.1.1.0 h.1.checks.1.1.1.0;
    signed = h.1.checks.1.1.1.1.1.0;
    one_algorithm = one_algorithm_of x.strict Router c h.1.meets;
  }

  module _ (members : List Candidate) (issuer : ResourceFields) (a : LeadsTo x asked root members issuer)
      (octets : List ℕ) (holder : ResourceFields) (o : Option CertFields)
      (b : LeadsTo x asked root members holder) (router : IsRouterIfAny x asked holder (Some octets) o) where
    -- no fault of it is found
    pub no_router_fault : (e : PathFault) → e ≢ Memory → Finds x (router_demand x asked issuer) octets e → ⊥
    no_router_fault e apart found =
        let g : PathStrings = record { anchor = root.anchor; below = members; router = Some octets } in
        let error : PathError = record { index = length members + 1; fault = e } in
        let wrong = wrong_below x asked g law octets refl (nameless issuer) (alone members issuer a) error refl found in
        let j : Judged = record { holder = nameless holder; router = o } in
        (unless_holds e apart wrong).0 j
        (record { accepted = alone members holder b; router = router_same holder octets o router })

    -- it is a child of the issuer
    pub router_is_child : (certs : List (List ℕ)) (place : ℕ) → octets ≡ string_at certs place →
        IsChildOf x.verifies issuer.cert certs place
    router_is_child certs place stands =
        subst (λ (c : CertFields). IsChildOf x.verifies c certs place) (one_holder members holder issuer b a)
        (router_child_of holder octets o router certs place stands)
