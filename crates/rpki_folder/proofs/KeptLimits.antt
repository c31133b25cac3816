-- What a walk keeps of the limits that it reaches below an issuer, wherever it ends there.
use Rattle.std.specs.Prelude.{◌==◌, Contains, Option, Result, Ok, Err, IsErr, if◌then◌else◌, slice_index_or}
use Rattle.std.proofs.Common.{◌≡◌, ◌+◌, ◌-◌, ◌*◌, ◌/◌, ◌<◌, ◌≤◌, ℕ, List, [], ◌∷◌, ◌++◌, length, refl, sym, subst}
use Rattle.std.proofs.Common.{ap, ◌∙◌, arith}
use Rattle.std.proofs.lemmas.List.{get_or_past}
use Rattle.std.proofs.lemmas.List.Elements.{Contains-append_left, Contains-append_right}
use Rattle.std.proofs.lemmas.List.Sums.{fold-append}
use Rattle.rpki_der.specs.Values.{IsUnambiguous}
use Rattle.rpki_cert.specs.Certificates.{IsCertificate}
use Rattle.rpki_cert.specs.Verification.{Context, ResourceFields}
use Rattle.rpki_path.specs.Asking.{RevocationChecks}
use Rattle.rpki_folder.specs.declared.bounds.Ended.{Ended}
use Rattle.rpki_folder.specs.declared.bounds.Ended.TheVariants.{Whole, TooDeep, OutOfSteps}
use Rattle.rpki_folder.specs.declared.bounds.Limit.TheVariants.{Depth, Steps as steps}
use Rattle.rpki_folder.specs.declared.bounds.Walked.{Walked}
use Rattle.rpki_folder.specs.declared.limits.LimitTable.{LimitTable}
use Rattle.rpki_folder.specs.declared.limits.Reached.{Reached}
use Rattle.rpki_folder.specs.declared.share.Share.{Share}
use Rattle.rpki_folder.specs.declared.walk.Ca.{Ca}
use Rattle.rpki_folder.specs.Folders.{cas_at}
use Rattle.rpki_folder.specs.LimitTables.{nothing, both_reached, of_limit, ca_at, reached_more, IsTableOf, HasReached}
use Rattle.rpki_folder.specs.ReachedLimits.{IsToldNumber, LimitedCa, limited_ca, AreLimited, end_of, ended_of}
use Rattle.rpki_folder.specs.ReachedLimits.Steps.{CostIs, IsEmpty, AreCounted, AreLimitedBelow, AreLimitedBelowEach}
use Rattle.rpki_folder.specs.ReachedLimits.Steps.{KeepsBelow, KeepsBelowEach}
use Rattle.rpki_folder.specs.Walks.{Root, members_at, LeadsTo, Told, worse}
use Rattle.rpki_folder.specs.Walks.{IsChildOf, AreChildren, TellsWithin, TakesStep, IsShort, IsTooDeep, IsComplete}
use Rattle.rpki_folder.specs.Walks.{IsCompleteInShares, IsJudgedInShares, IsEnough}
use Rattle.rpki_folder.specs.Walks.Steps.{AreJudged, AreLookedAt}
use Rattle.rpki_folder.proofs.ChildPaths.{passing, child_on}
use Rattle.rpki_folder.proofs.Descent.{if_err, most_all}
use Rattle.rpki_folder.proofs.LimitSteps.{end_append, limits_below_none, limits_below_more, limits_none}
use Rattle.rpki_folder.proofs.LimitSteps.{limits_deep, limits_short, limits_each, limits_whole}
use Rattle.rpki_folder.proofs.PickedLists.{in_none, in_front}
use Rattle.rpki_folder.proofs.Shares.{goes_through, are_children, are_cas, ca_admitted, each_leads}

-- ---- what was counted

counts_none : (old : LimitTable) → AreCounted old [] old
counts_none old = record { start_is = refl; count_is = refl; each = λ place low. refl }

-- one after the other
counts_more : (old mid new : LimitTable) (ls more : List LimitedCa) → AreCounted old ls mid →
    AreCounted mid more new → AreCounted old (ls ++ more) new
counts_more old mid new ls more h k = record {
  start_is = k.start_is ∙ h.start_is;
  count_is = k.count_is ∙ h.count_is;
  each = λ place low.
      k.each place (subst (λ (n : ℕ). place < n) (sym h.count_is) low)
      ∙ ap (λ (start : ℕ). reached_more start place (slice_index_or mid.reached.items place nothing) more) h.start_is
      ∙ ap (λ (r : Reached). reached_more old.start place r more) (h.each place low)
      ∙ sym (fold-append (λ r ca. if ca_at old.start ca.above == place then both_reached (of_limit ca.limit) r else r)
      (slice_index_or old.reached.items place nothing) ls more);
}

-- from nothing
counts_all : (start count : ℕ) (old new : LimitTable) (limited : List LimitedCa) → IsEmpty start count old →
    AreCounted old limited new → IsTableOf start count limited new
counts_all start count old new limited none h = record {
  start_is = h.start_is ∙ none.start_is;
  each = λ place within.
      h.each place (omega (arith, within, none.count_is))
      ∙ ap (λ (s : ℕ). reached_more s place (slice_index_or old.reached.items place nothing) limited) none.start_is
      ∙ ap (λ (r : Reached). reached_more start place r limited) (none.each place within);
  beyond = λ place high. get_or_past new.reached.items place nothing (omega (arith, high, h.count_is, none.count_is));
}

-- ---- below an issuer that has no child

module _ (x : Context) (asked : RevocationChecks) (admits : List ℕ → ℕ → Type 0) (issuer : ResourceFields)
    (certs : List (List ℕ)) (above : List ℕ) (depth : ℕ) (share : Share) (law : IsUnambiguous IsCertificate) where
  pub keeps_none : ((place : ℕ) → admits above place → IsChildOf x.verifies issuer.cert certs place → ⊥) →
      (old : LimitTable) → KeepsBelow x asked admits issuer certs above depth share old old Whole
  keeps_none none old = record {
    more = [];
    counted = counts_none old;
    ended_is = refl;
    are = λ root a base factor cost. limits_none x asked admits root certs above depth share.steps base factor law
        issuer a none;
  }

-- ---- below several CAs

module _ (x : Context) (asked : RevocationChecks) (admits : List ℕ → ℕ → Type 0) (certs : List (List ℕ))
    (above : List ℕ) (depth : ℕ) (share : Share) where
  pub keeps_each_none : (old : LimitTable) → KeepsBelowEach x asked admits certs above depth share [] old old Whole
  keeps_each_none old = record {
    more = [];
    counted = counts_none old;
    ended_is = refl;
    are = λ root leads base factor cost. limits_below_none x asked admits root certs above depth share.steps base
        factor;
  }

  -- below one more
  pub keeps_each_more : (cas : List Ca) (one : Ca) (old mid new : LimitTable) (ended end : Ended) →
      KeepsBelowEach x asked admits certs above depth share cas old mid ended
      → KeepsBelow x asked admits one.holder certs (above ++ one.place ∷ []) depth share mid new end →
      KeepsBelowEach x asked admits certs above depth share (cas ++ one ∷ []) old new (worse ended end)
  keeps_each_more cas one old mid new ended end h k = record {
    more = h.more ++ k.more;
    counted = counts_more old mid new h.more k.more h.counted k.counted;
    ended_is = ap (λ (e : Ended). worse e end) h.ended_is ∙ ap (λ (e : Ended). worse (end_of h.more) e) k.ended_is ∙
        sym (end_append h.more k.more);
    are = λ root leads base factor cost.
        limits_below_more x asked admits root certs above depth share.steps base factor cas one h.more k.more
        (h.are root (λ ca at. leads ca (Contains-append_left cas (one ∷ []) ca at)) base factor cost)
        (k.are root (leads one (Contains-append_right cas (one ∷ []) one (in_front one [] one refl))) base factor cost);
  }

-- ---- below an issuer

module _ (x : Context) (asked : RevocationChecks) (looks : List ℕ → ℕ → Type 0) (certs : List (List ℕ))
    (above : List ℕ) (depth : ℕ) (share : Share) (law : IsUnambiguous IsCertificate) (issuer : ResourceFields)
    (children : List ℕ) (c : AreLookedAt x.verifies (looks above) issuer.cert certs children)
    (old new : LimitTable) where
  kids : (root : Root) → LeadsTo x asked root (members_at root certs above) issuer →
      AreChildren x asked looks root certs above children
  kids root a = are_children x asked looks root certs above depth share.steps law issuer a children c

  -- where there are no children
  pub keeps_childless : children ≡ [] → KeepsBelow x asked looks issuer certs above depth share old old Whole
  keeps_childless is = record {
    more = [];
    counted = counts_none old;
    ended_is = refl;
    are = λ root a base factor cost.
        limits_none x asked looks root certs above depth share.steps base factor law issuer a
        (λ place admitted child.
        in_none place
        (subst (λ (l : List ℕ). Contains l place) is (c.all place admitted child)));
  }

  -- where the depth is used up
  pub keeps_deep : depth ≡ 0 → 0 < length children → AreCounted old (limited_ca above Depth ∷ []) new →
      KeepsBelow x asked looks issuer certs above depth share old new TooDeep
  keeps_deep deep some counted = record {
    more = limited_ca above Depth ∷ [];
    counted = counted;
    ended_is = refl;
    are = λ root a base factor cost. limits_deep x asked looks root certs above depth share.steps base factor law
        children (kids root a) deep some;
  }

  module _ (low : 0 < depth) where
    -- where the share is too small
    pub keeps_short : share.steps < length children → (told : Option ℕ) →
        ((base factor : ℕ) → CostIs share.cost base factor → IsToldNumber told (base + factor * length children)) →
        AreCounted old (limited_ca above (steps told) ∷ []) new
        → KeepsBelow x asked looks issuer certs above depth share old new OutOfSteps
    keeps_short short told number counted = record {
      more = limited_ca above (steps told) ∷ [];
      counted = counted;
      ended_is = refl;
      are = λ root a base factor cost. limits_short x asked looks root certs above depth share.steps base factor law
          children (kids root a) low short told (number base factor cost);
    }

    module _ (enough : length children ≤ share.steps) (cas : List Ca) (us : List Told)
        (j : AreJudged x asked issuer certs above children cas us) where
      limits_at : (root : Root) (a : LeadsTo x asked root (members_at root certs above) issuer)
          (base factor next : ℕ) → (0 < length cas → next ≡ (share.steps - length children) / length cas) →
          (ls : List LimitedCa)
          → AreLimitedBelowEach x asked looks root certs above (depth - 1) next (base + factor * length children)
          (factor * length cas) cas ls →
          AreLimitedBelow x asked looks root certs above depth share.steps base factor ls
      limits_at root a base factor next next_is ls e =
          limits_each x asked looks root certs above depth share.steps base factor law children (kids root a) low
          enough cas
          (are_cas x asked looks root certs above depth share.steps law issuer a children c enough cas us j)
          (ca_admitted x asked looks root certs above depth share.steps law issuer a children c enough cas us j)
          next next_is
          (λ p admitted rest r leads.
          goes_through x asked looks root certs above depth share.steps law issuer a children c enough cas us j p
          (c.all p admitted (child_on x asked root law certs above issuer a p rest r leads))
          (cas_at certs rest) r (passing x asked root law certs above p rest r leads))
          ls e

      -- below each of the CAs
      pub keeps_each : (next : Share) → (0 < length cas → next.steps ≡ (share.steps - length children) / length cas)
          → ((base factor : ℕ) → CostIs share.cost base factor →
          CostIs next.cost (base + factor * length children) (factor * length cas))
          → (ended : Ended) → KeepsBelowEach x asked looks certs above (depth - 1) next cas old new ended →
          KeepsBelow x asked looks issuer certs above depth share old new ended
      keeps_each next next_is cost_is ended k = record {
        more = k.more;
        counted = k.counted;
        ended_is = k.ended_is;
        are = λ root a base factor cost.
            limits_at root a base factor next.steps next_is k.more
            (k.are root (each_leads x asked looks root certs above depth share.steps law issuer a children c enough
            cas us j) (base + factor * length children)
            (factor * length cas) (cost_is base factor cost));
      }

      -- where there is none
      pub keeps_last : cas ≡ [] → KeepsBelow x asked looks issuer certs above depth share old old Whole
      keeps_last is = record {
        more = [];
        counted = counts_none old;
        ended_is = refl;
        are = λ root a base factor cost.
            let each : AreLimitedBelowEach x asked looks root certs above (depth - 1) 0
            (base + factor * length children) (factor * length cas) cas [] =
            subst (λ (l : List Ca). AreLimitedBelowEach x asked looks root certs above (depth - 1) 0
            (base + factor * length children) (factor * length cas) l []) (sym is)
            (limits_below_none x asked looks root certs above (depth - 1) 0 (base + factor * length children)
            (factor * length cas)) in
            limits_at root a base factor 0 (λ some. absurd (omega (arith, some, ap length is))) [] each;
      }

-- ---- below the certificate at which a walk starts

-- at the start nothing is counted, and the share is that of the whole walk
pub kept_whole : (x : Context) (asked : RevocationChecks) (admits : List ℕ → ℕ → Type 0) (issuer : ResourceFields)
    (certs : List (List ℕ)) (depth : ℕ) (share : Share) (start count : ℕ) (old : LimitTable) (walked : Walked) →
    IsEmpty start count old → CostIs share.cost 0 1
    → KeepsBelow x asked admits issuer certs [] depth share old walked.limits walked.ended
    → (limited : List LimitedCa) × HasReached start count limited walked ×
    ((root : Root) → LeadsTo x asked root (members_at root certs []) issuer →
    AreLimited x asked admits root certs depth share.steps limited)
kept_whole x asked admits issuer certs depth share start count old walked none cost k = (
  k.more,
  record { ended = k.ended_is; table = counts_all start count old walked.limits k.more none k.counted },
  (λ root a. limits_whole x asked admits root certs depth share.steps k.more (k.are root a 0 1 cost)),
)

-- a walk that failed didn't end
pub err_ended : {E : Type 0} (r : Result Walked E) → IsErr r → IsErr (ended_of r)
err_ended (Ok walked) err = absurd cc
err_ended (Err e) err = refl

-- and where it failed before it judged a certificate, it told nothing
pub tells_nothing : {E : Type 0} (x : Context) (asked : RevocationChecks) (admits : List ℕ → ℕ → Type 0)
    (root : Root) (certs : List (List ℕ)) (depth share : ℕ) (r : Result Walked E) → IsErr r →
    TellsWithin x asked admits root certs [] depth share (ended_of r) []
tells_nothing x asked admits root certs depth share r err = record {
  right = tt;
  let_in = tt;
  few = most_all (TakesStep x asked root certs) share [] (omega arith);
  short = if_err (λ (ended : Ended). ended ≡ OutOfSteps → IsShort x asked admits root certs [] share) (ended_of r)
      (err_ended r err);
  too_deep = if_err (IsTooDeep x asked admits root certs [] depth) (ended_of r) (err_ended r err);
  complete = if_err (IsComplete x asked admits root certs [] depth []) (ended_of r) (err_ended r err);
  in_shares = if_err (λ (ended : Ended). IsCompleteInShares x asked admits root certs [] depth share [])
      (ended_of r) (err_ended r err);
  judged = if_err (λ (ended : Ended). IsJudgedInShares x asked admits root certs [] depth share []) (ended_of r)
      (err_ended r err);
  enough = if_err (IsEnough x asked admits root certs [] depth share) (ended_of r) (err_ended r err);
}
