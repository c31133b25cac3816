-- At what a walk looks below an issuer, and what it tells there, wherever it ends.
use Rattle.std.specs.List.{AllByRecursion}
use Rattle.std.specs.Prelude.{Bool, Contains, IsErr, IfOk, Option, None, Some, Result, Ok}
use Rattle.std.specs.Global.{Vec}
use Rattle.std.proofs.Common.{◌≡◌, ◌+◌, ◌-◌, ◌/◌, ◌<◌, ◌≤◌, ℕ, List, [], ◌++◌, length, sym, subst, ap, arith}
use Rattle.std.proofs.lemmas.List.{append-nil}
use Rattle.rpki_der.specs.Values.{IsUnambiguous}
use Rattle.rpki_parts.specs.Signatures.{Verifies}
use Rattle.rpki_cert.specs.Certificates.{CertFields, IsCertificate}
use Rattle.rpki_cert.specs.Verification.{Context, ResourceFields}
use Rattle.rpki_path.specs.Asking.{RevocationChecks}
use Rattle.rpki_folder.specs.declared.bounds.Ended.{Ended}
use Rattle.rpki_folder.specs.declared.bounds.Ended.TheVariants.{Whole, TooDeep, OutOfSteps}
use Rattle.rpki_folder.specs.declared.walk.Below.{Below}
use Rattle.rpki_folder.specs.declared.walk.Ca.{Ca}
use Rattle.rpki_folder.specs.Folders.{ArePlacesOf}
use Rattle.rpki_folder.specs.Walks.{Root, members_at, LeadsTo, Told, StandsAt, IsLastOf, IsNamedUnder, EndsNoCircle}
use Rattle.rpki_folder.specs.Walks.{IsLookedAt, IsChildOf, TellsBelow}
use Rattle.rpki_folder.specs.Walks.Steps.{AreBelow, AreChildrenAmong, AreJudged, AreLookedAt, IsNoChild, IsOther}
use Rattle.rpki_folder.specs.Walks.Steps.{IsToldOf}
use Rattle.rpki_folder.specs.Walks.Steps.{WalksBelowEach}
use Rattle.rpki_folder.proofs.Descent.{there as low_of, child_names, all_weaker, if_ok, IsSound, sound_more}
use Rattle.rpki_folder.proofs.Descent.{sound_append}
use Rattle.rpki_folder.proofs.Descent.{sound_told, sound_others, ca_stands}
use Rattle.rpki_folder.proofs.LookedAt.{looked_at, let_in}
use Rattle.rpki_folder.proofs.PickedLists.{in_none}
use Rattle.rpki_folder.proofs.Shares.{each_none, each_leads, ended_err, ended_childless, ended_deep, ended_short}
use Rattle.rpki_folder.proofs.Shares.{ended_each}

-- ---- which certificates are looked at

-- none, if no child is looked at
pub looked_none : (verifies : Verifies) (looks : ℕ → Type 0) (issuer : CertFields) (certs : List (List ℕ)) →
    ((place : ℕ) → looks place → IsChildOf verifies issuer certs place → ⊥) →
    AreLookedAt verifies looks issuer certs []
looked_none verifies looks issuer certs never = record {
  only = λ place at. absurd (in_none place at);
  all = λ place looked child. absurd (never place looked child);
  once = tt;
}

module _ (names : Bool) (admits : List ℕ → ℕ → Type 0) (top : CertFields) (certs : List (List ℕ)) (above : List ℕ)
    (law : IsUnambiguous IsCertificate) (issuer : CertFields) (last : IsLastOf top certs above issuer)
    (none : EndsNoCircle names top certs above) where
  abbrev Looks : ℕ → Type 0
  Looks = IsLookedAt names admits top certs above

  looked : (place : ℕ) → admits above place × IsNamedUnder names issuer certs place → Looks place
  looked place h = looked_at top certs law names above issuer last admits place none h

  -- those that are let in and named below an issuer that ends no circle
  pub are_looked_at : (verifies : Verifies) (places those : List ℕ) →
      ArePlacesOf certs issuer.fields.extensions.subject_key_identifier places →
      AreChildrenAmong verifies (λ p. admits above p × IsNamedUnder names issuer certs p) issuer certs places those
      → AreLookedAt verifies Looks issuer certs those
  are_looked_at verifies places those are c = record {
    only = λ place at. let h = c.only place at in (looked place h.0, h.1);
    all = λ place at child.
        c.all place (are.all place (low_of certs child.cert place child.stands)
        (child_names verifies issuer certs place child))
        (let_in top certs law names above issuer last admits place at) child;
    once = c.once;
  }

  -- what was told of the others
  pub others_looked : (x : Context) (asked : RevocationChecks) (holder : ResourceFields) (ts : List Told) →
      AllByRecursion (IsToldOf x asked holder certs above (IsOther x.verifies names admits issuer certs above)) ts →
      AllByRecursion (IsToldOf x asked holder certs above (IsNoChild x.verifies Looks issuer certs)) ts
  others_looked x asked holder ts told = all_weaker
      (IsToldOf x asked holder certs above (IsOther x.verifies names admits issuer certs above))
      (IsToldOf x asked holder certs above (IsNoChild x.verifies Looks issuer certs))
      (λ t h. (h.0, (looked t.place h.1.0, h.1.1), h.2)) ts told

-- ---- what is known at the same places above

module _ (x : Context) (asked : RevocationChecks) (certs : List (List ℕ)) (issuer : ResourceFields)
    (trail above : List ℕ) (same : trail ≡ above) where
  pub told_here : (looks : List ℕ → ℕ → Type 0) (ts : List Told) →
      AllByRecursion (IsToldOf x asked issuer certs trail (IsNoChild x.verifies (looks trail) issuer.cert certs)) ts →
      AllByRecursion (IsToldOf x asked issuer certs above (IsNoChild x.verifies (looks above) issuer.cert certs)) ts
  told_here looks ts told = subst (λ (l : List ℕ). AllByRecursion (IsToldOf x asked issuer certs l
      (IsNoChild x.verifies (looks l) issuer.cert certs)) ts) same told

  module _ (looks : List ℕ → ℕ → Type 0) (found : Option Below)
      (are : AreBelow x.verifies (looks trail) issuer.cert certs found) where
    pub none_here : found ≡ None → AreLookedAt x.verifies (looks above) issuer.cert certs []
    none_here is = subst (λ (l : List ℕ). AreLookedAt x.verifies (looks l) issuer.cert certs []) same
        (subst (λ (b : Option Below). AreBelow x.verifies (looks trail) issuer.cert certs b) is are)

    pub some_here : (below : Below) → found ≡ Some below →
        AreBelow x.verifies (looks above) issuer.cert certs (Some below)
    some_here below is = subst (λ (l : List ℕ). AreBelow x.verifies (looks l) issuer.cert certs (Some below)) same
        (subst (λ (b : Option Below). AreBelow x.verifies (looks trail) issuer.cert certs b) is are)

  module _ (places children : List ℕ) (alike : places ≡ children) (us : List Told) where
    pub children_here : length us ≤ length places →
        AllByRecursion (IsToldOf x asked issuer certs trail (λ p. Contains places p)) us →
        (length us ≤ length children) ×
        AllByRecursion (IsToldOf x asked issuer certs above (λ p. Contains children p)) us
    children_here few told = subst (λ (k : List ℕ). (length us ≤ length k) ×
        AllByRecursion (IsToldOf x asked issuer certs above (λ p. Contains k p)) us) alike (
          few,
          subst (λ (l : List ℕ). AllByRecursion (IsToldOf x asked issuer certs l (λ p. Contains places p)) us) same
              told,
        )

    pub judged_here : {E : Type 0} (result : Result (Vec Ca) E) (cas : Vec Ca) → result ≡ Ok cas →
        IfOk result (λ (k : Vec Ca). AreJudged x asked issuer certs trail places k.items us) →
        AreJudged x asked issuer certs above children cas.items us
    judged_here {E} result cas is judged = subst (λ (k : List ℕ). AreJudged x asked issuer certs above k cas.items us)
        alike
        (subst (λ (l : List ℕ). AreJudged x asked issuer certs l places cas.items us) same
        (if_ok (λ (k : Vec Ca). AreJudged x asked issuer certs trail places k.items us) result cas is judged))

-- ---- what is told

module _ (x : Context) (asked : RevocationChecks) (looks : List ℕ → ℕ → Type 0) (certs : List (List ℕ))
    (above : List ℕ) (depth share : ℕ) (law : IsUnambiguous IsCertificate) (issuer : ResourceFields)
    (ts : List Told)
    (told_ts : AllByRecursion
    (IsToldOf x asked issuer certs above (IsNoChild x.verifies (looks above) issuer.cert certs)) ts) where
  others_sound : (root : Root) → LeadsTo x asked root (members_at root certs above) issuer →
      IsSound x asked looks root certs above 0 ts
  others_sound root a = sound_others x asked looks root certs above law issuer a
      (IsNoChild x.verifies (looks above) issuer.cert certs) ts told_ts (λ p h. h.0) (λ p h child. h.1 child)

  others_few : (root : Root) → LeadsTo x asked root (members_at root certs above) issuer →
      IsSound x asked looks root certs above share ts
  others_few root a = sound_more x asked looks root certs above 0 share ts (omega arith) (others_sound root a)

  -- where memory ran out before the children were known
  pub at_err : {E : Type 0} (r : Result Ended E) → IsErr r →
      TellsBelow {E = E} x asked looks issuer certs above depth share r ts
  at_err {E} r err = λ root a. ended_err x asked looks root certs above depth share law issuer a {E = E} ts r err
      (others_few root a)

  module _ (children : List ℕ) (c : AreLookedAt x.verifies (looks above) issuer.cert certs children) where
    -- where there are no children
    pub at_none : {E : Type 0} → children ≡ [] →
        TellsBelow {E = E} x asked looks issuer certs above depth share (Ok Whole) ts
    at_none {E} is = λ root a. ended_childless x asked looks root certs above depth share law issuer a children c
        {E = E} ts is (others_few root a)

    -- where the depth is used up
    pub at_depth : {E : Type 0} → depth ≡ 0 → 0 < length children →
        TellsBelow {E = E} x asked looks issuer certs above depth share (Ok TooDeep) ts
    at_depth {E} deep some = λ root a. ended_deep x asked looks root certs above depth share law issuer a children c
        {E = E} ts deep some (others_few root a)

    -- where the share is too small
    pub at_short : {E : Type 0} → share < length children →
        TellsBelow {E = E} x asked looks issuer certs above depth share (Ok OutOfSteps) ts
    at_short {E} short = λ root a. ended_short x asked looks root certs above depth share law issuer a children c
        {E = E} ts short (others_few root a)

    module _ (enough : length children ≤ share) (us : List Told) (few : length us ≤ length children)
        (told_us : AllByRecursion (IsToldOf x asked issuer certs above (λ p. Contains children p)) us) where
      judged_sound : (root : Root) → LeadsTo x asked root (members_at root certs above) issuer →
          IsSound x asked looks root certs above (length children) us
      judged_sound root a = sound_told x asked looks root certs above law issuer a (λ p. Contains children p) us
          told_us (λ p at. (c.only p at).0) (length children) few

      -- where memory ran out while they were judged
      pub judged_err : {E : Type 0} (r : Result Ended E) → IsErr r →
          TellsBelow {E = E} x asked looks issuer certs above depth share r (ts ++ us)
      judged_err {E} r err = λ root a. ended_err x asked looks root certs above depth share law issuer a {E = E}
          (ts ++ us) r err
          (sound_more x asked looks root certs above (0 + length children) share (ts ++ us) (omega (arith, enough))
          (sound_append x asked looks root certs above 0 (length children) ts us (others_sound root a)
          (judged_sound root a)))

      module _ (cas : List Ca) (j : AreJudged x asked issuer certs above children cas us) (low : 0 < depth) where
        -- an accepted CA stands at its place
        pub each_stands : (ca : Ca) → Contains cas ca → StandsAt certs ca.place ca.holder.cert
        each_stands ca at = let o = (j.only ca at).1 in ca_stands x asked issuer certs ca.place o.0 ca.holder o.1

        -- below each of the CAs
        pub at_each : {E : Type 0} (next : ℕ) → (0 < length cas → next ≡ (share - length children) / length cas) →
            (r : Result Ended E) (vs : List Told) →
            WalksBelowEach {E = E} x asked looks certs above (depth - 1) next cas r vs
            → TellsBelow {E = E} x asked looks issuer certs above depth share r (ts ++ (us ++ vs))
        at_each {E} next next_is r vs walks = λ root a.
            ended_each x asked looks root certs above depth share law issuer a children c enough cas us j next
            next_is {E = E} low ts vs (others_sound root a)
            (judged_sound root a) r
            (walks root (each_leads x asked looks root certs above depth share law issuer a children c enough cas us j))

        -- where there is none
        pub at_last : {E : Type 0} → cas ≡ [] →
            TellsBelow {E = E} x asked looks issuer certs above depth share (Ok Whole) (ts ++ us)
        at_last {E} is =
            let walks : WalksBelowEach {E = E} x asked looks certs above (depth - 1) 0 cas (Ok Whole) [] =
            subst (λ (l : List Ca). WalksBelowEach {E = E} x asked looks certs above (depth - 1) 0 l (Ok Whole) [])
            (sym is) (λ root leads. each_none x asked looks root certs above (depth - 1) 0 {E = E}) in
            subst (λ (l : List Told). TellsBelow {E = E} x asked looks issuer certs above depth share (Ok Whole)
            (ts ++ l)) (append-nil us)
            (at_each {E = E} 0 (λ some. absurd (omega (arith, some, ap length is))) (Ok Whole) [] walks)
