-- What is said of octets is said of others that begin with the same certificate, whatever is behind it.
use Rattle.std.specs.List.{AllZip}
use Rattle.std.specs.Prelude.{Option, Some, None, Err}
use Rattle.std.proofs.Common.{ℕ, List, [], ◌∷◌, ◌++◌, subst}
use Rattle.rpki_der.specs.Values.{IsUnambiguous}
use Rattle.rpki_der.proofs.Formats.{one_meant}
use Rattle.rpki_ext.specs.Kinds.{Means}
use Rattle.rpki_cert.specs.Certificates.{CertFields, IsCertificate}
use Rattle.rpki_cert.specs.SaidKinds.{BeginsWithKind}
use Rattle.rpki_cert.specs.Verification.{Context, ResourceFields}
use Rattle.rpki_cert.specs.declared.inspect.Kind.{Kind}
use Rattle.rpki_cert.specs.declared.inspect.Kind.TheVariants.{Anchor, Authority, EndEntity, Detached, Router}
use Rattle.rpki_path.specs.Asking.{RevocationChecks}
use Rattle.rpki_path.specs.Judging.{IsRouterIfAny}
use Rattle.rpki_path.specs.NameChains.{BeginChained}
use Rattle.rpki_path.specs.Paths.{Candidate, candidate, Demand, Finds, IsMember, Member}
use Rattle.rpki_path.specs.declared.judging.Judged.{Judged}
use Rattle.rpki_path.specs.declared.path_fault.PathFault.{PathFault}
use Rattle.rpki_path.specs.declared.path_fault.PathFault.TheVariants.{Decode, Inspect, Verify, Revocation, Memory}
use Rattle.rpki_folder.specs.Walks.{Root, IsAcceptedAs, IsRightOf, LeadsTo, demand_as}

-- each begins with the certificates with which the other does
pub record AreAlike (one other : List ℕ) : Type 0 where
  pub there : (c : CertFields) → Means IsCertificate c one → Means IsCertificate c other
  pub back : (c : CertFields) → Means IsCertificate c other → Means IsCertificate c one

-- octets that begin with one certificate do
pub are_alike : IsUnambiguous IsCertificate → (c : CertFields) (one other : List ℕ) → Means IsCertificate c one →
    Means IsCertificate c other → AreAlike one other
are_alike law c one other here there = record {
  there = λ d begins. subst (λ (e : CertFields). Means IsCertificate e other)
      (one_meant IsCertificate law c d one here begins) there;
  back = λ d begins. subst (λ (e : CertFields). Means IsCertificate e one)
      (one_meant IsCertificate law c d other there begins) here;
}

module _ (one other : List ℕ) (alike : AreAlike one other) where
  pub kind_alike : (kind : Kind) → BeginsWithKind kind one → BeginsWithKind kind other
  kind_alike kind h = (h.0, alike.there h.0 h.1, h.2)

  members_alike : (kind : Kind) (ms : List Member) (before : List Candidate) →
      AllZip IsMember ms (before ++ candidate kind one ∷ []) →
      AllZip IsMember ms (before ++ candidate kind other ∷ [])
  members_alike kind [] [] h = absurd h
  members_alike kind (m ∷ ms) [] h = (record { kind_is = h.0.kind_is; begins = alike.there m.cert h.0.begins }, h.1)
  members_alike kind [] (b ∷ before) h = absurd h
  members_alike kind (m ∷ ms) (b ∷ before) h = (h.0, members_alike kind ms before h.1)

  pub chained_alike : (anchor : List ℕ) (before : List Candidate) (kind : Kind) →
      BeginChained anchor (before ++ candidate kind one ∷ []) →
      BeginChained anchor (before ++ candidate kind other ∷ [])
  chained_alike anchor before kind h = record {
    path = h.path;
    path_of = record {
      anchor_begins = h.path_of.anchor_begins;
      members =
          members_alike kind h.path.below before h.path_of.members;
    };
    chain = h.chain;
  }

  module _ (x : Context) (asked : RevocationChecks) (root : Root) (members : List Candidate) where
    leads_alike : (kind : Kind) (r : ResourceFields) → LeadsTo x asked root (members ++ candidate kind one ∷ []) r →
        LeadsTo x asked root (members ++ candidate kind other ∷ []) r
    leads_alike kind r h = record {
      path = h.path;
      path_of = record {
        anchor_begins = h.path_of.anchor_begins;
        members =
            members_alike kind h.path.below members h.path_of.members;
      };
      is_valid = h.is_valid;
      held = h.held;
    }

    router_alike : (r : ResourceFields) (router : Option CertFields) → IsRouterIfAny x asked r (Some one) router →
        IsRouterIfAny x asked r (Some other) router
    router_alike r None h = absurd h
    router_alike r (Some c) h = (alike.there c h.0, h.1)

    pub accepted_alike : (kind : Kind) (j : Judged) → IsAcceptedAs x asked root members kind one j →
        IsAcceptedAs x asked root members kind other j
    accepted_alike Router j h = (h.0, router_alike j.holder j.router h.1)
    accepted_alike Anchor j h = (leads_alike Anchor j.holder h.0, h.1)
    accepted_alike Authority j h = (leads_alike Authority j.holder h.0, h.1)
    accepted_alike EndEntity j h = (leads_alike EndEntity j.holder h.0, h.1)
    accepted_alike Detached j h = (leads_alike Detached j.holder h.0, h.1)

    finds_alike : (d : Demand) (e : PathFault) → Finds x d one e → Finds x d other e
    finds_alike d (Decode e) h = (h.0, λ c begins. h.1 c (alike.back c begins))
    finds_alike d (Inspect e) h = (h.0, alike.there h.0 h.1, h.2)
    finds_alike d (Verify e) h = (h.0, alike.there h.0 h.1, h.2)
    finds_alike d (Revocation e) h =
        record {
          cert = h.cert;
          begins = alike.there h.cert h.begins;
          meets = h.meets;
          verified =
              h.verified;
          first = h.first;
        }
    finds_alike d Memory h = h

    pub rejected_alike : (e : PathFault) → IsRightOf x asked root members one (Err e) →
        IsRightOf x asked root members other (Err e)
    rejected_alike e h = (
      h.0,
      (h.1.0, h.1.1, kind_alike h.1.0 h.1.2, h.1.3, finds_alike (demand_as x asked h.1.1 h.1.0) e h.1.4),
    )
