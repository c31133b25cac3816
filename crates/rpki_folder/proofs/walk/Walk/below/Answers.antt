use Rattle.std.specs.Prelude.{Result}
use Rattle.std.specs.declared.alloc.AllocError.{AllocError}
use Rattle.std.proofs.Common.{◌≡◌, ℕ, List, [], length, sym, ap, subst, ◌∙◌}
use Rattle.rpki_cert.specs.Verification.{context}
use Rattle.rpki_path.specs.AskedLists.{by_named_lists}
use Rattle.rpki_folder.specs.declared.bounds.Ended.{Ended}
use Rattle.rpki_folder.specs.declared.bounds.Walked.{Walked}
use Rattle.rpki_folder.specs.declared.limits.LimitTable.{LimitTable}
use Rattle.rpki_folder.specs.LimitTables.{HasReached}
use Rattle.rpki_folder.specs.ReachedLimits.{AreLimited, LimitedCa, ended_of}
use Rattle.rpki_folder.specs.ReachedLimits.Steps.{IsEmpty, KeepsBelow}
use Rattle.rpki_folder.specs.Walks.{Root, members_at, LeadsTo, TellsBelow, IsLookedAt}
use Rattle.rpki_folder.proofs.Descent.{if_ok, ok_if}
use Rattle.rpki_folder.proofs.KeptLimits.{kept_whole, tells_nothing}
use Rattle.rpki_folder.proofs.walk.Walk.below.Goals as goal

pub returns-in_err-limits-clause-tells : goal.returns-in_err-limits-clause-tells
returns-in_err-limits-clause-tells g c =
    let w = c.args.self.now in
    let x = context (g.V.Verifier.verifies w.verifier.now) w.at w.strict in
    let asked = by_named_lists w.names x w.folder.now.lists in
    let admits = IsLookedAt w.names (g.A.Admission.admits w.admission.now) c.args.issuer.now.cert
    w.folder.now.certs in (
      [],
      g.met.W.Visitor.begins c.args.visitor.now,
      (λ root a. tells_nothing x asked admits root w.folder.now.certs w.bounds.depth w.bounds.steps
          c.from_residual.result c.from_residual.ensures.0),
    )

pub returns-clause-tells : goal.returns-clause-tells
returns-clause-tells g c =
    let w = c.args.self.now in
    let x = context (g.V.Verifier.verifies w.verifier.now) w.at w.strict in
    let asked = by_named_lists w.names x w.folder.now.lists in
    let admits = IsLookedAt w.names (g.A.Admission.admits w.admission.now) c.args.issuer.now.cert w.folder.now.certs in
    let d = c.descend-ended.ensures.tells c.args.visitor.now [] (g.met.W.Visitor.begins c.args.visitor.now) in (
      d.0,
      d.1,
      subst (λ (r : Result Ended AllocError). TellsBelow x asked admits c.args.issuer.now w.folder.now.certs []
          w.bounds.depth w.bounds.steps r d.0) (sym c.walked.ensures.ended)
          (subst (λ (n : ℕ). TellsBelow x asked admits c.args.issuer.now w.folder.now.certs [] w.bounds.depth n
          c.descend-ended.result d.0) c.whole.ensures.steps
          (subst (λ (l : List ℕ). TellsBelow x asked admits c.args.issuer.now w.folder.now.certs l w.bounds.depth
          c.whole.result.steps c.descend-ended.result d.0) c.new-2.ensures.items d.2)),
    )

-- what the trail counts of the walk, if it ended
pub returns-clause-limits : goal.returns-clause-limits
returns-clause-limits g c =
    let w = c.args.self.now in
    let x = context (g.V.Verifier.verifies w.verifier.now) w.at w.strict in
    let asked = by_named_lists w.names x w.folder.now.lists in
    let certs = w.folder.now.certs in
    let issuer = c.args.issuer.now in
    let admits = IsLookedAt w.names (g.A.Admission.admits w.admission.now) issuer.cert certs in
    let old = c.in_ok-limits.limits in
    let new = c.descend-ended.new.trail.limits in
    let start = c.args.start in
    ok_if (λ (walked : Walked). (limited : List LimitedCa) × HasReached start (length certs) limited walked ×
    ((root : Root) → LeadsTo x asked root (members_at root certs []) issuer →
    AreLimited x asked admits root certs w.bounds.depth w.bounds.steps limited)) c.walked.result (λ walked is.
    let all : walked.limits ≡ new = if_ok (λ (k : Walked). k.limits ≡ new) c.walked.result walked is
    c.walked.ensures.limits in
    let ends : c.descend-ended.result ≡ ended_of c.walked.result = sym c.walked.ensures.ended in
    let how = ends ∙ ap (λ (r : Result Walked AllocError). ended_of r) is in
    let k = if_ok (λ (e : Ended). KeepsBelow x asked admits issuer certs c.new-2.result.items w.bounds.depth
    c.whole.result old new e) c.descend-ended.result walked.ended how c.descend-ended.ensures.limits in
    let here = subst (λ (l : List ℕ). KeepsBelow x asked admits issuer certs l w.bounds.depth c.whole.result old new
    walked.ended) c.new-2.ensures.items k in
    let told = subst (λ (t : LimitTable). KeepsBelow x asked admits issuer certs [] w.bounds.depth c.whole.result
    old t walked.ended) (sym all) here in
    let empty = subst (λ (n : ℕ). IsEmpty start n old) (ap length c.certs.ensures) c.in_ok-limits.ensures in
    let r = kept_whole x asked admits issuer certs w.bounds.depth c.whole.result start (length certs) old walked
    empty c.whole.ensures.cost told in (
      r.0,
      r.1,
      (λ root a. subst (λ (n : ℕ). AreLimited x asked admits root certs w.bounds.depth n r.0) c.whole.ensures.steps
          (r.2 root a)),
    ))
