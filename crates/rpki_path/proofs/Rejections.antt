-- Strings that begin with other members than a valid path has.
use Rattle.std.specs.List.{AllZip}
use Rattle.std.proofs.Common.{◌≡◌, ◌+◌, ◌<◌, ◌≤◌, ◌↔◌, ℕ, List, ◌∷◌, ◌++◌, length, refl, sym, ap, subst, ◌∙◌, inl}
use Rattle.std.proofs.Common.{inr, arith}
use Rattle.std.proofs.lemmas.List.{append_assoc, length-append}
use Rattle.rpki_der.specs.Values.{IsUnambiguous}
use Rattle.rpki_parts.specs.Conditions.{IsFirstFalse}
use Rattle.rpki_ext.specs.Kinds.{Means}
use Rattle.rpki_cert.specs.Certificates.{CertFields, IsCertificate}
use Rattle.rpki_cert.specs.Profiles.{MeetsProfile, Lacks, faults}
use Rattle.rpki_cert.specs.Verification.{Context, CheckUnder, issued_checks, IsVerified, ResourceFields}
use Rattle.rpki_cert.proofs.Checks.{all_map, first_map, first_not_all}
use Rattle.rpki_cert.specs.declared.inspect.Kind.{Kind}
use Rattle.rpki_cert.specs.declared.verification_error.VerificationError.{VerificationError}
use Rattle.rpki_crl.specs.Revocation.{revocation_checks}
use Rattle.rpki_crl.specs.declared.revocation_error.RevocationError.{RevocationError}
use Rattle.rpki_path.specs.Asking.{RevocationChecks, nobody, IsUnrevokedBy}
use Rattle.rpki_der.proofs.Formats.{one_meant}
use Rattle.rpki_path.specs.declared.path_fault.PathFault.{PathFault}
use Rattle.rpki_path.specs.declared.path_fault.PathFault.TheVariants.{Decode, Inspect, Verify, Revocation, Memory}
use Rattle.rpki_path.specs.declared.path_fault.PathError.{PathError}
use Rattle.rpki_path.specs.Paths.{Member, Path, last, certificate_at, CheckBelow, AskedBelow, IsValidPath}
use Rattle.rpki_path.specs.Paths.{Candidate, candidate, IsMember, IsPathOf, IsAccepted, IsNoValidPath, UnlessMemory}
use Rattle.rpki_path.specs.Paths.{Demand, trust_anchor_demand, demand_below, Finds, IsFaultOfTrustAnchor}
use Rattle.rpki_path.specs.Paths.{IsFaultBelow, IsFault, IsUnasked}
use Rattle.rpki_path.specs.Paths.Steps.{demand_under}
use Rattle.rpki_path.proofs.LongerPaths.{extended, above, there, Parted, parted, zip_one, all_at}
use Rattle.rpki_path.proofs.ValidPaths.{unasked_checks, check_last, check_above}

-- ---- the members that strings begin with

module _ (law : IsUnambiguous IsCertificate) where
  one_certificate : (c d : CertFields) (octets : List ℕ) → Means IsCertificate c octets →
      Means IsCertificate d octets → c ≡ d
  one_certificate c d octets m n = one_meant IsCertificate law c d octets m n

  one_member : (m n : Member) (s : Candidate) → IsMember m s → IsMember n s → m ≡ n
  one_member m n s p q =
      let kinds : m.kind ≡ n.kind = p.kind_is ∙ sym q.kind_is in
      let certs : m.cert ≡ n.cert = one_certificate m.cert n.cert s.octets p.begins q.begins in
      let first : m ≡ record { kind = n.kind; cert = m.cert } =
      ap (λ (k : Kind). let x : Member = record { kind = k; cert = m.cert } in x) kinds in
      let second : record { kind = n.kind; cert = m.cert } ≡ n =
      ap (λ (c : CertFields). let x : Member = record { kind = n.kind; cert = c } in x) certs in
      first ∙ second

  -- strings begin with the members of one path at most
  pub one_path : (anchor : List ℕ) (below : List Candidate) (p q : Path) → IsPathOf anchor below p →
      IsPathOf anchor below q → p ≡ q
  one_path anchor below p q of other =
      let anchors : p.anchor ≡ q.anchor = one_certificate p.anchor q.anchor anchor of.anchor_begins
      other.anchor_begins in
      let belows : p.below ≡ q.below = zip_one IsMember one_member p.below q.below below of.members other.members in
      let first : p ≡ record { anchor = q.anchor; below = p.below } =
      ap (λ (c : CertFields). let x : Path = record { anchor = c; below = p.below } in x) anchors in
      first ∙ ap (λ (l : List Member). let x : Path = record { anchor = q.anchor; below = l } in x) belows

-- a path goes on from another one, with this member next
pub record GoesOn (p q : Path) (there : Candidate) : Type 0 where
  pub item : Member
  pub more : List Member
  pub item_is : IsMember item there
  pub path_is : p ≡ extended q item more

-- the path that strings begin with goes on from the one that those before a string begin with
pub goes_on : IsUnambiguous IsCertificate →
    (anchor : List ℕ) (before : List Candidate) (there : Candidate) (after : List Candidate) (q : Path) →
    IsPathOf anchor before q → (p : Path) → IsPathOf anchor (before ++ there ∷ after) p → GoesOn p q there
goes_on law anchor before there after q q_of p of =
    let split : Parted IsMember p.below before there = parted IsMember p.below before there after of.members in
    let anchors : p.anchor ≡ q.anchor = one_certificate law p.anchor q.anchor anchor of.anchor_begins
    q_of.anchor_begins in
    let fronts : split.front ≡ q.below = zip_one IsMember (one_member law) split.front q.below before split.fronts
    q_of.members in
    let belows : p.below ≡ q.below ++ split.item ∷ split.more = split.parts ∙
    ap (λ (l : List Member). l ++ split.item ∷ split.more) fronts in
    let first : p ≡ record { anchor = q.anchor; below = p.below } =
    ap (λ (c : CertFields). let y : Path = record { anchor = c; below = p.below } in y) anchors in
    record {
      item = split.item;
      more = split.more;
      item_is = split.items;
      path_is = first ∙ ap (λ (l : List Member). let y : Path = record { anchor = q.anchor; below = l } in y) belows;
    }

-- ---- what a step finds

-- by equivalent checks the same is found
finds_map : (x : Context) (kind : Kind) (check other : CertFields → VerificationError → Type 0)
    (checks : List VerificationError) (asked next : CertFields → RevocationError → Type 0) (octets : List ℕ)
    (e : PathFault)
    → ((c : CertFields) (l : VerificationError) → check c l ↔ other c l) →
    ((c : CertFields) (l : RevocationError) → asked c l ↔ next c l)
    → Finds x (record { kind = kind; check = check; checks = checks; asked_check = asked }) octets e →
    Finds x (record { kind = kind; check = other; checks = checks; asked_check = next }) octets e
finds_map x kind check other checks asked next octets (Decode e) same free h = h
finds_map x kind check other checks asked next octets (Inspect e) same free h = h
finds_map x kind check other checks asked next octets (Verify e) same free h =
    (h.0, h.1, (h.2.0, first_map (check h.0) (other h.0) checks e (same h.0) h.2.1))
finds_map x kind check other checks asked next octets (Revocation e) same free h = record {
  cert = h.cert;
  begins = h.begins;
  meets = h.meets;
  verified = all_map (check h.cert) (other h.cert) checks (λ l. (same h.cert l).0) h.verified;
  first = first_map (asked h.cert) (next h.cert) revocation_checks e (free h.cert) h.first;
}
finds_map x kind check other checks asked next octets Memory same free h = h

module _ (x : Context) where
  -- where what is asked is true, no fault is one of revocation
  pub unasked_demand : (d : Demand) → ((c : CertFields) → IsVerified (d.asked_check c) revocation_checks) →
      (octets : List ℕ) (e : PathFault) → Finds x d octets e → IsUnasked e
  unasked_demand d all octets (Decode e) h = tt
  unasked_demand d all octets (Inspect e) h = tt
  unasked_demand d all octets (Verify e) h = tt
  unasked_demand d all octets (Revocation e) h = first_not_all (d.asked_check h.cert) revocation_checks e h.first
      (all h.cert)
  unasked_demand d all octets Memory h = tt

  -- where nobody is asked, no fault is one of revocation
  pub unasked : (anchor : List ℕ) (below : List Candidate) (e : PathError) → IsFault x nobody anchor below e →
      IsUnasked e.fault
  unasked anchor below e (inl h) = unasked_demand (trust_anchor_demand x) (λ c. unasked_checks revocation_checks)
      anchor e.fault h.fault_is
  unasked anchor below e (inr h) = unasked_demand (demand_below x nobody h.path (last h.path) h.there.kind)
      (λ c. unasked_checks revocation_checks) h.there.octets e.fault h.fault_is

-- ---- what is found doesn't fit a valid certificate

module _ (x : Context) (law : IsUnambiguous IsCertificate) (d : Demand) (octets : List ℕ) where
  -- a certificate that the string begins with has none of the faults, if it meets what is asked
  pub found_against : (e : PathFault) → Finds x d octets e → (c : CertFields) → Means IsCertificate c octets →
      MeetsProfile d.kind x.strict c
      → IsVerified (d.check c) d.checks → IsVerified (d.asked_check c) revocation_checks → UnlessMemory e ⊥
  found_against (Decode e) h c m meets all free = h.1 c m
  found_against (Inspect e) h c m meets all free =
      let same = one_certificate law h.0 c octets h.1 m in
      first_not_all (Lacks d.kind x.strict c) (faults d.kind) e
      (subst (λ (b : CertFields). IsFirstFalse (Lacks d.kind x.strict b) (faults d.kind) e) same h.2) meets
  found_against (Verify e) h c m meets all free =
      let same = one_certificate law h.0 c octets h.1 m in
      first_not_all (d.check c) d.checks e
      (subst (λ (b : CertFields). IsFirstFalse (d.check b) d.checks e) same h.2.1) all
  found_against (Revocation e) h c m meets all free =
      let same = one_certificate law h.cert c octets h.begins m in
      first_not_all (d.asked_check c) revocation_checks e
      (subst (λ (b : CertFields). IsFirstFalse (d.asked_check b) revocation_checks e) same h.first) free
  found_against Memory h c m meets all free = tt

-- what stands in place of one fact may stand in place of what follows from it
pub unless_weaker : {P Q : Type 0} (e : PathFault) → (P → Q) → UnlessMemory e P → UnlessMemory e Q
unless_weaker (Decode e) f h = f h
unless_weaker (Inspect e) f h = f h
unless_weaker (Verify e) f h = f h
unless_weaker (Revocation e) f h = f h
unless_weaker Memory f h = tt

-- what each case of a fact refutes, unless it is one of memory, refutes the fact
pub unless_refuted : (P : Type 0) (e : PathFault) → (P → UnlessMemory e ⊥) → UnlessMemory e (P → ⊥)
unless_refuted P (Decode e) h = h
unless_refuted P (Inspect e) h = h
unless_refuted P (Verify e) h = h
unless_refuted P (Revocation e) h = h
unless_refuted P Memory h = tt

module _ (x : Context) (asked : RevocationChecks) where
  -- ---- errors

  -- an error of the string below an accepted path
  pub fault_there : (anchor : List ℕ) (before : List Candidate) (kind : Kind) (octets : List ℕ)
      (after : List Candidate) (tal : List ℕ) (issuer : ResourceFields) →
      IsAccepted x asked anchor before tal issuer → (e : PathError) → e.index ≡ length before + 1 →
      Finds x (demand_under x asked issuer kind) octets e.fault →
      IsFault x asked anchor (before ++ candidate kind octets ∷ after) e
  fault_there anchor before kind octets after tal issuer a e at found =
      let p = a.path in
      let asked_same : (c : CertFields) (l : RevocationError) →
      asked issuer.cert.fields c l ↔ AskedBelow asked p (last p) c l =
      λ c l. subst (λ (d : CertFields). asked issuer.cert.fields c l ↔ asked d.fields c l) a.held.cert_is
      ((λ h. h), (λ h. h)) in
      inr (record {
        before = before;
        there = candidate kind octets;
        after = after;
        parts = refl;
        path = p;
        path_of = a.path_of;
        is_valid = a.is_valid;
        index_is = at;
        fault_is = finds_map x kind (CheckUnder x issuer) (CheckBelow x p (last p)) issued_checks
            (asked issuer.cert.fields) (AskedBelow asked p (last p)) octets e.fault
            (check_last x p tal issuer a.held) asked_same found;
      })

  -- it is one of more strings
  pub fault_of_more : (anchor : List ℕ) (below more : List Candidate) (e : PathError) →
      IsFault x asked anchor below e → IsFault x asked anchor (below ++ more) e
  fault_of_more anchor below more e (inl h) = inl h
  fault_of_more anchor below more e (inr h) = inr (record {
    before = h.before;
    there = h.there;
    after = h.after ++ more;
    parts = ap (λ (l : List Candidate). l ++ more) h.parts ∙ append_assoc h.before (h.there ∷ h.after) more;
    path = h.path;
    path_of = h.path_of;
    is_valid = h.is_valid;
    index_is = h.index_is;
    fault_is = h.fault_is;
  })

  -- ---- an error says that no valid path has these members

  module _ (law : IsUnambiguous IsCertificate) where
    -- a refusal that holds of each path
    for_each : (e : PathFault) (anchor : List ℕ) (below : List Candidate) →
        ((p : Path) → IsPathOf anchor below p → IsValidPath x asked p → UnlessMemory e ⊥) →
        UnlessMemory e (IsNoValidPath x asked anchor below)
    for_each e anchor below h =
        unless_weaker e (λ none p of is_valid. none (p, of, is_valid))
        (unless_refuted ((p : Path) × IsPathOf anchor below p × IsValidPath x asked p) e (λ t. h t.0 t.1 t.2))

    no_anchor : (anchor : List ℕ) (below : List Candidate) (e : PathError) → IsFaultOfTrustAnchor x anchor e →
        (p : Path) → IsPathOf anchor below p → IsValidPath x asked p → UnlessMemory e.fault ⊥
    no_anchor anchor below e h p of is_valid = found_against x law (trust_anchor_demand x) anchor e.fault h.fault_is
        p.anchor of.anchor_begins is_valid.anchor_meets is_valid.anchor_verified
        (unasked_checks revocation_checks)

    module _ (anchor : List ℕ) (below : List Candidate) (e : PathError) (h : IsFaultBelow x asked anchor below e)
        (p : Path) (of : IsPathOf anchor below p) where
      no_member : IsValidPath x asked p → UnlessMemory e.fault ⊥
      no_member is_valid =
          let on = goes_on law anchor h.before h.there h.after h.path h.path_of p
          (subst (λ (l : List Candidate). IsPathOf anchor l p) h.parts of) in
          let q = h.path in
          let m = on.item in
          let all = extended q m on.more in
          let longer : IsValidPath x asked all = subst (λ (y : Path). IsValidPath x asked y) on.path_is is_valid in
          let low : last q < last all = omega (arith, length-append q.below (m ∷ on.more)) in
          let same : last q ≤ last q = omega arith in
          let meets : MeetsProfile m.kind x.strict m.cert =
          all_at (λ (y : Member). MeetsProfile y.kind x.strict y.cert) q.below m on.more
          longer.members_meet in
          let verified : IsVerified (CheckBelow x all (last q) m.cert) issued_checks =
          subst (λ (c : CertFields). IsVerified (CheckBelow x all (last q) c) issued_checks)
          (there q m on.more) (longer.members_verified (last q) low) in
          let checks : IsVerified (CheckBelow x q (last q) m.cert) issued_checks =
          all_map (CheckBelow x all (last q) m.cert) (CheckBelow x q (last q) m.cert) issued_checks
          (λ l. (check_above x q m on.more (last q) same m.cert l).1) verified in
          let unrevoked : IsUnrevokedBy asked (certificate_at all (last q)).fields m.cert =
          subst (λ (c : CertFields). IsUnrevokedBy asked (certificate_at all (last q)).fields c)
          (there q m on.more) (longer.members_unrevoked (last q) low) in
          let free : IsUnrevokedBy asked (certificate_at q (last q)).fields m.cert =
          subst (λ (c : CertFields). IsUnrevokedBy asked c.fields m.cert) (above q m on.more (last q) same)
          unrevoked in
          let kind_is : m.kind ≡ h.there.kind = on.item_is.kind_is in
          found_against x law (demand_below x asked q (last q) h.there.kind) h.there.octets e.fault h.fault_is
          m.cert on.item_is.begins (subst (λ (k : Kind). MeetsProfile k x.strict m.cert) kind_is meets) checks
          free

    -- a fault says that the strings are no valid path, unless it ran out of memory
    pub no_valid_path : (anchor : List ℕ) (below : List Candidate) (e : PathError) →
        IsFault x asked anchor below e → UnlessMemory e.fault (IsNoValidPath x asked anchor below)
    no_valid_path anchor below e (inl h) = for_each e.fault anchor below (no_anchor anchor below e h)
    no_valid_path anchor below e (inr h) = for_each e.fault anchor below (no_member anchor below e h)
