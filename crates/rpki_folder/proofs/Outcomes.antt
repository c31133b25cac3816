-- What the outcome of a step means of the paths that go through its certificate.
use Rattle.std.specs.Prelude.{Option, None, Some, IsSome, IsOk, IsErr}
use Rattle.std.proofs.Common.{◌≡◌, ℕ, List, [], ◌∷◌, ◌++◌, Result, Ok, Err, refl, sym, subst, ap, ◌∙◌, append_assoc}
use Rattle.std.proofs.lemmas.List.{append-nil}
use Rattle.rpki_der.specs.Values.{IsUnambiguous}
use Rattle.rpki_cert.specs.Certificates.{IsCertificate}
use Rattle.rpki_cert.specs.Verification.{Context, ResourceFields}
use Rattle.rpki_cert.specs.declared.inspect.Kind.{Kind}
use Rattle.rpki_cert.specs.declared.inspect.Kind.TheVariants.{Anchor, Authority, EndEntity, Detached, Router}
use Rattle.rpki_path.specs.Asking.{RevocationChecks}
use Rattle.rpki_path.specs.declared.judging.Judged.{Judged}
use Rattle.rpki_path.specs.declared.path_fault.PathFault.{PathFault}
use Rattle.rpki_path.specs.Paths.{Candidate, candidate}
use Rattle.rpki_path.specs.Judging.{IsRouterIfAny}
use Rattle.rpki_folder.specs.Folders.{string_at, cas_at}
use Rattle.rpki_cert.specs.SaidKinds.{BeginsWithKind}
use Rattle.rpki_folder.specs.Walks.{Root, members_at, LeadsTo, IsAcceptedAs, IsReached, IsRightOf, IsChildOf}
use Rattle.rpki_folder.specs.Walks.Steps.{IsAnswer, GoesOn, IsOutcome}
use Rattle.rpki_cert.proofs.SaidOnce.{begins_one}
use Rattle.rpki_folder.proofs.PathsDown.{members_more, leads_further, no_fault, is_child, says_authority}
use Rattle.rpki_folder.proofs.PathsDown.{no_router_fault, router_is_child}

-- the first of these places
abbrev pub head_of : List ℕ → ℕ → ℕ
head_of [] end = end
head_of (place ∷ places) end = place

module _ (x : Context) (asked : RevocationChecks) (root : Root) (law : IsUnambiguous IsCertificate) where
  module _ (members : List Candidate) (issuer : ResourceFields) (a : LeadsTo x asked root members issuer)
      (octets : List ℕ) where
    -- an answer below an issuer is right of the path that leads to it
    pub right_answer : (kind : Kind) → BeginsWithKind kind octets → (verdict : Result Judged PathFault) →
        IsAnswer x asked issuer octets kind verdict → IsRightOf x asked root members octets verdict
    right_answer Anchor says verdict h = absurd says.2
    right_answer Authority says (Ok j) h =
        (Authority, says, (leads_further x asked root law members issuer a Authority octets j.holder h.0, h.1))
    right_answer EndEntity says (Ok j) h =
        (EndEntity, says, (leads_further x asked root law members issuer a EndEntity octets j.holder h.0, h.1))
    right_answer Detached says (Ok j) h =
        (Detached, says, (leads_further x asked root law members issuer a Detached octets j.holder h.0, h.1))
    right_answer Router says (Ok j) h = (
      Router,
      says,
      (
        subst (λ (r : ResourceFields). LeadsTo x asked root members r) (sym h.0) a,
        subst (λ (r : ResourceFields). IsRouterIfAny x asked r (Some octets) j.router) (sym h.0) h.1,
      ),
    )
    right_answer Authority says (Err e) h = (h.0, (Authority, issuer, says, a, h.1))
    right_answer EndEntity says (Err e) h = (h.0, (EndEntity, issuer, says, a, h.1))
    right_answer Detached says (Err e) h = (h.0, (Detached, issuer, says, a, h.1))
    right_answer Router says (Err e) h = (h.0, (Router, issuer, says, a, h.1))

    -- octets that are accepted are those of a child
    pub accepted_child : (kind : Kind) → BeginsWithKind kind octets → (j : Judged) →
        IsAcceptedAs x asked root members kind octets j → (certs : List (List ℕ)) (place : ℕ) →
        octets ≡ string_at certs place → IsChildOf x.verifies issuer.cert certs place
    accepted_child Anchor says j h = absurd says.2
    accepted_child Authority says j h = is_child x asked root law members issuer a Authority octets [] j.holder h.0
    accepted_child EndEntity says j h = is_child x asked root law members issuer a EndEntity octets [] j.holder h.0
    accepted_child Detached says j h = is_child x asked root law members issuer a Detached octets [] j.holder h.0
    accepted_child Router says j h = router_is_child x asked root law members issuer a octets j.holder j.router h.0 h.1

    -- octets that are accepted aren't rejected
    accepted_ok : (kind : Kind) → BeginsWithKind kind octets → (j : Judged) →
        IsAcceptedAs x asked root members kind octets j → (verdict : Result Judged PathFault) →
        IsAnswer x asked issuer octets kind verdict → IsOk verdict
    accepted_ok Anchor says j h verdict is = absurd says.2
    accepted_ok Authority says j h (Ok v) is = refl
    accepted_ok EndEntity says j h (Ok v) is = refl
    accepted_ok Detached says j h (Ok v) is = refl
    accepted_ok Router says j h (Ok v) is = refl
    accepted_ok Authority says j h (Err e) is =
        absurd (no_fault x asked root law members issuer a Authority octets [] j.holder h.0 e is.0 is.1)
    accepted_ok EndEntity says j h (Err e) is =
        absurd (no_fault x asked root law members issuer a EndEntity octets [] j.holder h.0 e is.0 is.1)
    accepted_ok Detached says j h (Err e) is =
        absurd (no_fault x asked root law members issuer a Detached octets [] j.holder h.0 e is.0 is.1)
    accepted_ok Router says j h (Err e) is =
        absurd (no_router_fault x asked root law members issuer a octets j.holder j.router h.0 h.1 e is.0 is.1)

    -- the outcome of octets that are accepted is so
    pub outcome_ok : (verdict : Result Judged PathFault) (next : Option ResourceFields) →
        IsOutcome x asked issuer octets verdict next → (kind : Kind) → BeginsWithKind kind octets → (j : Judged) →
        IsAcceptedAs x asked root members kind octets j → IsOk verdict
    outcome_ok verdict next o kind says j h =
        let same : kind ≡ o.kind = begins_one law octets kind o.kind says o.says in
        accepted_ok o.kind o.says j (subst (λ (k : Kind). IsAcceptedAs x asked root members k octets j) same h)
        verdict o.answer

    no_err : (verdict : Result Judged PathFault) → IsAnswer x asked issuer octets Authority verdict →
        (after : List Candidate) (r : ResourceFields) →
        LeadsTo x asked root (members ++ candidate Authority octets ∷ after) r → IsErr verdict → ⊥
    no_err (Ok v) is after r b err = absurd cc
    no_err (Err e) is after r b err = no_fault x asked root law members issuer a Authority octets after r b e is.0 is.1

    none_no : (kind : Kind) (verdict : Result Judged PathFault) (next : Option ResourceFields) →
        GoesOn kind verdict next → kind ≡ Authority → (IsErr verdict → ⊥) → IsSome next
    none_no kind verdict (Some ca) goes is never = refl
    none_no kind verdict None goes is never = absurd (never (goes is))

    -- where a path goes on through octets, the walk does
    pub outcome_goes_on : (verdict : Result Judged PathFault) (next : Option ResourceFields) →
        IsOutcome x asked issuer octets verdict next → (after : List Candidate) (r : ResourceFields) →
        LeadsTo x asked root (members ++ candidate Authority octets ∷ after) r → IsSome next
    outcome_goes_on verdict next o after r b =
        let says = says_authority x asked root law members issuer a Authority octets after r b refl in
        let same : o.kind ≡ Authority = begins_one law octets o.kind Authority o.says says in
        none_no o.kind verdict next o.goes_on same
        (no_err verdict (subst (λ (k : Kind). IsAnswer x asked issuer octets k verdict) same o.answer) after r
        b)

  -- ---- paths through the folder

  module _ (certs : List (List ℕ)) (above : List ℕ) (place : ℕ) where
    -- a path goes on through the CA at the place
    pub record Passes : Type 0 where
      pub after : List Candidate
      pub holder : ResourceFields
      pub leads : LeadsTo x asked root (members_at root certs above ++ candidate Authority (string_at certs place) ∷
          after) holder

    member_passes : (rest : List ℕ) (m : Candidate) (r : ResourceFields) →
        LeadsTo x asked root (members_at root certs (above ++ place ∷ rest) ++ m ∷ []) r → Passes
    member_passes rest m r b =
        let cut : members_at root certs (above ++ place ∷ rest) ++ m ∷ [] ≡ members_at root certs above ++
        candidate Authority (string_at certs place) ∷ (cas_at certs rest ++ m ∷ []) =
        ap (λ (l : List Candidate). l ++ m ∷ []) (members_more root certs above (place ∷ rest)) ∙
        append_assoc (members_at root certs above) (cas_at certs (place ∷ rest)) (m ∷ []) in
        record {
          after = cas_at certs rest ++ m ∷ [];
          holder = r;
          leads =
              subst (λ (l : List Candidate). LeadsTo x asked root l r) cut b;
        }

    accepted_passes : (rest : List ℕ) (kind : Kind) (octets : List ℕ) (j : Judged) → BeginsWithKind kind octets →
        IsAcceptedAs x asked root (members_at root certs (above ++ place ∷ rest)) kind octets j → Passes
    accepted_passes rest Anchor octets j says h = absurd says.2
    accepted_passes rest Authority octets j says h = member_passes rest (candidate Authority octets) j.holder h.0
    accepted_passes rest EndEntity octets j says h = member_passes rest (candidate EndEntity octets) j.holder h.0
    accepted_passes rest Detached octets j says h = member_passes rest (candidate Detached octets) j.holder h.0
    accepted_passes rest Router octets j says h = record {
      after = cas_at certs rest;
      holder = j.holder;
      leads = subst (λ (l : List Candidate). LeadsTo x asked root l j.holder)
          (members_more root certs above (place ∷ rest)) h.0;
    }

    -- what is reached by the CA at the place is reached through it
    pub reached_passes : (rest : List ℕ) (end : ℕ) → IsReached x asked root certs (above ++ place ∷ rest) end → Passes
    reached_passes rest end h = accepted_passes rest h.0 (string_at certs end) h.1 h.2 h.3

    module _ (issuer : ResourceFields) (a : LeadsTo x asked root (members_at root certs above) issuer) where
      -- what is reached below an issuer goes by a child of it
      pub reached_child : (between : List ℕ) (end : ℕ) → head_of between end ≡ place →
          IsReached x asked root certs (above ++ between) end → IsChildOf x.verifies issuer.cert certs place
      reached_child [] end is h =
          let here : IsReached x asked root certs above end =
          subst (λ (l : List ℕ). IsReached x asked root certs l end) (append-nil above) h in
          accepted_child (members_at root certs above) issuer a (string_at certs end) here.0 here.2 here.1 here.3
          certs place (ap (λ (p : ℕ). string_at certs p) is)
      reached_child (p ∷ rest) end is h =
          let passes = reached_passes rest end
          (subst (λ (q : ℕ). IsReached x asked root certs (above ++ q ∷ rest) end) is h) in
          is_child x asked root law (members_at root certs above) issuer a Authority (string_at certs place)
          passes.after passes.holder passes.leads certs place refl
