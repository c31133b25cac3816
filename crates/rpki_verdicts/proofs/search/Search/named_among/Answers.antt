use Rattle.std.specs.Prelude.{All, Any, MatchOption, Option, None, Some}
use Rattle.std.proofs.Common.{◌≡◌, ◌+◌, ◌<◌, ◌≤◌, ℕ, Bool, true, false, List, get_or, inl, inr, length, map, sym, subst, take}
use Rattle.rpki_files.specs.Files.{FileFields}
use Rattle.rpki_verdicts.specs.Searches.{DoesNotReach, IsNamedAmong, IsNamedIn, IsUnanchored}
use Rattle.rpki_verdicts.specs.ShownPaths.{placed_of}
use Rattle.rpki_verdicts.specs.declared.parts.TreePart.{TreePart}
use Rattle.rpki_verdicts.proofs.PartByPart.{all_gone, all_more, any_here}
use Rattle.rpki_verdicts.proofs.SearchSteps.{named_stops, unanchored_stops}
use Rattle.rpki_verdicts.proofs.search.Search.named_among.Goals as goal
use Rattle.rpki_verdicts.proofs.search.Search.named_among.Goals.{in-Some+else-reach, in_default}

module _ {V : Type 0} (Q : V → Type 0) (parts : List TreePart) (i : ℕ) where
  -- what is kept stays, where a part has no tree
  kept_more : (o : Option V) (part : TreePart) → i < length parts → part ≡ get_or parts i part →
      MatchOption o (All (λ part. IsUnanchored part.answer) (take i parts)) Q → IsUnanchored part.answer →
      MatchOption o (All (λ part. IsUnanchored part.answer) (take (i + 1) parts)) Q
  kept_more None part low there so_far one = all_more (λ part. IsUnanchored part.answer) parts i part low there so_far one
  kept_more (Some v) part low there so_far one = so_far

-- what is kept of all
kept_of_all : {V : Type 0} (files : V → List FileFields) (certs : List FileFields) (parts : List TreePart) (i : ℕ)
    (file : FileFields) (o : Option V) → length parts ≤ i → All (λ part. DoesNotReach certs file part.answer) parts →
    MatchOption o (All (λ part. IsUnanchored part.answer) (take i parts))
    (λ v. Any (λ part. IsNamedIn certs part.answer file false (files v)) parts) →
    MatchOption o (All (λ part. IsUnanchored part.answer) parts) (λ v. IsNamedAmong certs parts file (files v))
kept_of_all files certs parts i file None high stops kept = all_gone (λ part. IsUnanchored part.answer) parts i high kept
kept_of_all files certs parts i file (Some v) high stops kept = inr (kept, stops)

pub returns-then-reach : goal.returns-then-reach
returns-then-reach c =
    let certs = placed_of c.args.self.now.trees.now in
    let parts = c.args.parts.now in
    let file = c.args.file.now in
    let part = c.part-item.result in
    let path = map (λ f. f.now) c.in-Some.named.path.items in
    let its : IsNamedIn certs part.answer file c.in-Some.named.reach path = rw c.in-Some.is at c.in_ok-named.ensures in
    let reaches : IsNamedIn certs part.answer file true path = subst
    (λ (b : Bool). IsNamedIn certs part.answer file b path) c.if-reach.true its in
    inl (any_here (λ part. IsNamedIn certs part.answer file true path) parts c.loop-part.part-index part
    c.loop-part-test.true c.part-item.is reaches)

pub loop-part-preserved : goal.loop-part-preserved
loop-part-preserved c =
    let certs = placed_of c.args.self.now.trees.now in
    let parts = c.args.parts.now in
    let file = c.args.file.now in
    let i = c.loop-part.part-index in
    let part = c.part-item.result in
    let low = c.loop-part-test.true in
    let there = c.part-item.is in
    elim c.match-branch-2.branch [
      | in-Some+else-reach w ↦
          let path = map (λ f. f.now) w.in-Some.named.path.items in
          let said : IsNamedIn certs part.answer file w.in-Some.named.reach path = rw w.in-Some.is at c.in_ok-named.ensures in
          let its : IsNamedIn certs part.answer file false path = subst
          (λ (b : Bool). IsNamedIn certs part.answer file b path) w.if-reach.false said in
          let is : c.match-branch-2.kept ≡ Some w.in-Some.named.path = cc (w.kept-is, w.replace.ensures.after) in
          record {
            stops = all_more (λ part. DoesNotReach certs file part.answer) parts i part low there
                c.loop-part.invariant.stops (named_stops certs file path part.answer its);
            named =
                subst (λ (o : Option _). MatchOption o (All (λ part. IsUnanchored part.answer) (take (i + 1) parts))
                (λ path. Any (λ part. IsNamedIn certs part.answer file false (map (λ f. f.now) path.items)) parts))
                (sym is)
                (any_here (λ part. IsNamedIn certs part.answer file false path) parts i part low there its);
          }
      | in_default w ↦
          let one : IsUnanchored part.answer = rw w.in_default.is at c.in_ok-named.ensures in
          record {
            stops = all_more (λ part. DoesNotReach certs file part.answer) parts i part low there
                c.loop-part.invariant.stops (unanchored_stops certs file part.answer one);
            named =
                subst (λ (o : Option _). MatchOption o (All (λ part. IsUnanchored part.answer) (take (i + 1) parts))
                (λ path. Any (λ part. IsNamedIn certs part.answer file false (map (λ f. f.now) path.items)) parts))
                (sym w.kept-is)
                (kept_more (λ path. Any (λ part. IsNamedIn certs part.answer file false (map (λ f. f.now) path.items))
                parts) parts i c.loop-part.kept part low there c.loop-part.invariant.named one);
          }
    ]

pub returns : goal.returns
returns c =
    let certs = placed_of c.args.self.now.trees.now in
    let parts = c.args.parts.now in
    let file = c.args.file.now in
    let i = c.loop-part.part-index in
    let high = c.loop-part-test.false in
    kept_of_all (λ path. map (λ f. f.now) path.items) certs parts i file c.loop-part.kept high
    (all_gone (λ part. DoesNotReach certs file part.answer) parts i high c.loop-part.invariant.stops) c.loop-part.invariant.named
