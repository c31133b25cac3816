-- The issuer that files are, by their verdict.
use Rattle.std.specs.Prelude.{IsSome, Option, Some, None}
use Rattle.std.proofs.Common.{◌≡◌, ℕ, List, [], ◌∷◌, ◌++◌, inl, inr, subst}
use Rattle.std.proofs.lemmas.Bool.{false≢true}
use Rattle.rpki_cert.specs.Certificates.{CertFields}
use Rattle.rpki_path.specs.GivenPaths.{PathStrings}
use Rattle.rpki_path.specs.declared.judging.Judged.{Judged}
use Rattle.rpki_cert.specs.Verification.{Context, ResourceFields}
use Rattle.rpki_cert.specs.SaidKinds.{SaysAuthority}
use Rattle.rpki_verdicts.specs.PathAnswers.{AreSame, IsVerdictBy}
use Rattle.rpki_verdicts.specs.PathFiles.{IsGivenBy}
use Rattle.rpki_verdicts.specs.declared.path.Fault.{Fault}
use Rattle.rpki_verdicts.specs.declared.path.Verdict.{Verdict}
use Rattle.rpki_verdicts.specs.declared.path.Verdict.TheVariants.{Accepted, Rejected}
use Rattle.rpki_requests.specs.RequestFiles.{AreOneIssuer, IsHeldByLast, IsPathIssuer, IsNoAuthority, chained}

-- what the last member of a path holds, where it isn't a router
abbrev held_alone : ResourceFields → Judged
held_alone r = record { holder = r; router = None }

-- ---- no files

no_first : (first : List ℕ) (rest : List (List ℕ)) → [] ≡ first ∷ rest → ⊥
no_first first rest is = cc

-- no files are a path
no_path : (g : PathStrings) → IsGivenBy [] g → ⊥
no_path g (inl alone) = no_first alone.0 [] alone.1
no_path g (inr last) =
    no_first last.split.anchor (last.split.cas ++ last.split.octets ∷ []) last.split.strings_are

module _ (x : Context) where
  -- they have no verdict
  no_verdict : (lists : List (List ℕ)) (v : Verdict) → IsVerdictBy x chained [] lists v → ⊥
  no_verdict [] v on = no_path on.0 on.1
  no_verdict (list ∷ lists) v on = no_path on.2.0 on.2.1

  module _ (files lists : List (List ℕ)) where
    unjudged : (v : Verdict) → files ≡ [] → IsVerdictBy x chained files lists v → ⊥
    unjudged v empty on = no_verdict lists v (subst (λ (l : List (List ℕ)). IsVerdictBy x chained l lists v) empty on)

    -- where there is no file, there is no issuer
    pub none_only : files ≡ [] → (other : Option ResourceFields) → IsPathIssuer x files lists other →
        AreOneIssuer other None
    none_only empty None is = tt
    none_only empty (Some r) held = unjudged (Accepted (held_alone r)) empty held.accepted

    -- a path that is rejected has none
    pub rejected_none : (fault : Fault) →
        ((j : Judged) → IsVerdictBy x chained files lists (Accepted j) →
        IsVerdictBy x chained files lists (Rejected fault) → ⊥) →
        IsVerdictBy x chained files lists (Rejected fault) → (issuer : Option ResourceFields) →
        IsPathIssuer x files lists issuer → ⊥
    rejected_none fault never on None empty = unjudged (Rejected fault) empty on
    rejected_none fault never on (Some r) held = never (held_alone r) held.accepted on

    module _ (judged : Judged) (on : IsVerdictBy x chained files lists (Accepted judged)) where
      -- one that is accepted has the CA that its last member is
      pub authority_held : (r : ResourceFields) → judged ≡ held_alone r → SaysAuthority r.cert.fields →
          IsHeldByLast x files lists r
      authority_held r is says = record {
        accepted = subst (λ (j : Judged). IsVerdictBy x chained files lists (Accepted j)) is on;
        authority = says;
      }

      module _ (one : (j i : Judged) → IsVerdictBy x chained files lists (Accepted j) →
          IsVerdictBy x chained files lists (Accepted i) → AreSame j i) where
        -- and no other
        pub authority_only : (r : ResourceFields) → judged ≡ held_alone r → (other : Option ResourceFields) →
            IsPathIssuer x files lists other → AreOneIssuer other (Some r)
        authority_only r is None empty = unjudged (Accepted judged) empty on
        authority_only r is (Some s) held =
            (one (held_alone s) (held_alone r) held.accepted
            (subst (λ (j : Judged). IsVerdictBy x chained files lists (Accepted j)) is on)).0

        some_router : (router : Option CertFields) → IsSome router → None ≡ router → ⊥
        some_router None some is = false≢true some
        some_router (Some c) some is = cc

        -- and none where that is none
        pub authority_none : IsNoAuthority judged → (issuer : Option ResourceFields) →
            IsPathIssuer x files lists issuer → ⊥
        authority_none why None empty = unjudged (Accepted judged) empty on
        authority_none (inl some) (Some s) held =
            some_router judged.router some (one (held_alone s) judged held.accepted on).1
        authority_none (inr not) (Some s) held =
            not (subst (λ (c : CertFields). SaysAuthority c.fields)
            (one (held_alone s) judged held.accepted on).0.cert_is held.authority)
