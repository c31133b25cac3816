-- Strings with a member whose names don't chain begin with no path whose names do; and strings that
-- begin with a path are all read.
use Rattle.std.specs.Prelude.{Option, Some, None}
use Rattle.std.specs.List.{AllZip}
use Rattle.std.proofs.Common.{◌≡◌, ◌+◌, ◌<◌, ◌≤◌, ℕ, List, [], ◌∷◌, ◌++◌, refl, sym, subst, inl, inr, arith}
use Rattle.std.proofs.lemmas.List.{append-nil, length-append}
use Rattle.std.proofs.lemmas.Slice.Zip.{all_zipped_more}
use Rattle.rpki_der.specs.Values.{IsUnambiguous}
use Rattle.rpki_der.proofs.Formats.{one_meant}
use Rattle.rpki_ext.specs.Kinds.{Means}
use Rattle.rpki_cert.specs.Certificates.{CertFields, IsCertificate}
use Rattle.rpki_cert.specs.Verification.{Context, ResourceFields}
use Rattle.rpki_cert.specs.declared.inspect.Kind.TheVariants.{Router}
use Rattle.rpki_path.specs.Asking.{RevocationChecks}
use Rattle.rpki_path.specs.declared.path_fault.PathError.{PathError}
use Rattle.rpki_path.specs.declared.path_fault.PathFault.{PathFault}
use Rattle.rpki_path.specs.declared.path_fault.PathFault.TheVariants.{Decode, Inspect, Verify, Revocation, Memory}
use Rattle.rpki_path.specs.declared.judging.Judged.{Judged}
use Rattle.rpki_path.specs.GivenPaths.{PathStrings}
use Rattle.rpki_path.specs.Judging.{IsAcceptedWith, IsRouterIfAny}
use Rattle.rpki_path.specs.NameChains.{IsNamedBelow, IsSelfNamed, NamesChain, BeginPath, BeginChained, IsUnchained}
use Rattle.rpki_path.specs.NameChains.{IsUnreadBelow, router_candidates}
use Rattle.rpki_path.specs.Paths.{Path, last, certificate_at, longer, member, Candidate, candidate, IsMember}
use Rattle.rpki_path.specs.Paths.{IsPathOf, IsAccepted}
use Rattle.rpki_path.specs.Paths.Steps.{IsUnread}
use Rattle.rpki_path.proofs.LongerPaths.{extended, above, there, parted}
use Rattle.rpki_path.proofs.Rejections.{goes_on}

pub never_chained : IsUnambiguous IsCertificate → (anchor : List ℕ) (below : List Candidate) (place : ℕ) →
    IsUnchained anchor below place → BeginChained anchor below → ⊥
never_chained law anchor below place (inl h) b =
    let two = h.1 in
    two.2 (subst IsSelfNamed (one_meant IsCertificate law b.path.anchor two.0 anchor b.path_of.anchor_begins two.1)
    b.chain.anchor_named)
never_chained law anchor below place (inr h) b =
    let q = h.above.path in
    let on = goes_on law anchor h.before h.there h.after q h.above.path_of b.path
    (subst (λ (l : List Candidate). IsPathOf anchor l b.path) h.parts b.path_of) in
    let m = on.item in
    let all = extended q m on.more in
    let chain : NamesChain all = subst NamesChain on.path_is b.chain in
    let low : last q < last all = omega (arith, length-append q.below (m ∷ on.more)) in
    let same : last q ≤ last q = omega arith in
    let named : IsNamedBelow (certificate_at all (last q)) m.cert =
    subst (λ (c : CertFields). IsNamedBelow (certificate_at all (last q)) c) (there q m on.more)
    (chain.members_named (last q) low) in
    let below_last : IsNamedBelow (certificate_at q (last q)) m.cert =
    subst (λ (c : CertFields). IsNamedBelow c m.cert) (above q m on.more (last q) same) named in
    let found = h.found in
    found.2 (subst (λ (c : CertFields). IsNamedBelow (certificate_at q (last q)) c)
    (one_meant IsCertificate law m.cert found.0 h.there.octets on.item_is.begins found.1) below_last)

-- ---- strings that begin with a path

-- of octets that begin with a certificate none is read only where memory runs out
read_or_memory : (c : CertFields) (octets : List ℕ) (e : PathFault) → Means IsCertificate c octets →
    IsUnread octets e → e ≡ Memory
read_or_memory c octets (Decode e) begins h = absurd (h.1 c begins)
read_or_memory c octets (Inspect e) begins h = absurd h
read_or_memory c octets (Verify e) begins h = absurd h
read_or_memory c octets (Revocation e) begins h = absurd h
read_or_memory c octets Memory begins h = refl

-- where the strings begin with a path, a certificate is read of each, unless memory runs out
pub all_read : (anchor : List ℕ) (below : List Candidate) (p : Path) → IsPathOf anchor below p → (e : PathError) →
    IsUnreadBelow anchor below e → e.fault ≡ Memory
all_read anchor below p of e (inl h) = read_or_memory p.anchor anchor e.fault of.anchor_begins h.1
all_read anchor below p of e (inr h) =
    let split = parted IsMember p.below h.before h.there h.after
    (subst (λ (l : List Candidate). AllZip IsMember p.below l) h.parts of.members) in
    read_or_memory split.item.cert h.there.octets e.fault split.items.begins h.found

module _ (x : Context) (asked : RevocationChecks) (anchor : List ℕ) (below : List Candidate)
    (holder : ResourceFields) (a : IsAccepted x asked anchor below [] holder) where
  with_router : (router : Option (List ℕ)) (r : Option CertFields) → IsRouterIfAny x asked holder router r →
      (p : Path) × IsPathOf anchor (below ++ router_candidates router) p
  with_router None None h =
      (a.path, subst (λ (l : List Candidate). IsPathOf anchor l a.path) (sym (append-nil below)) a.path_of)
  with_router None (Some c) h = absurd h
  with_router (Some octets) None h = absurd h
  with_router (Some octets) (Some c) h = (
    longer a.path (member Router c),
    record {
      anchor_begins = a.path_of.anchor_begins;
      members = all_zipped_more IsMember a.path.below below (member Router c) (candidate Router octets)
          a.path_of.members (record { kind_is = refl; begins = h.0 });
    },
  )

-- the strings of an accepted path begin with its members
pub accepted_begin : (x : Context) (asked : RevocationChecks) (g : PathStrings) (j : Judged) →
    IsAcceptedWith x asked g j → BeginPath g
accepted_begin x asked g j h = with_router x asked g.anchor g.below j.holder h.accepted g.router j.router h.router
