use Rattle.std.specs.Prelude.{Result}
use Rattle.std.proofs.Common.{◌≡◌, List, ℕ, [], length, ap, subst}
use Rattle.rpki_cert.specs.Certificates.{CertFields}
use Rattle.rpki_cert.specs.Verification.{Context, context}
use Rattle.rpki_path.specs.Asking.{RevocationChecks}
use Rattle.rpki_path.specs.AskedLists.{by_named_lists}
use Rattle.rpki_folder.specs.Walks.{Root, at_anchor, Told, TellsWithin, IsShort, IsTooDeep, IsComplete}
use Rattle.rpki_folder.specs.Walks.{IsCompleteInShares, IsJudgedInShares, IsEnough, IsLookedAt}
use Rattle.rpki_folder.specs.LimitTables.{HasReached}
use Rattle.rpki_folder.specs.ReachedLimits.{AreLimited, ended_of}
use Rattle.rpki_folder.specs.declared.bounds.Ended.{Ended}
use Rattle.rpki_folder.specs.declared.bounds.Ended.TheVariants.{OutOfSteps}
use Rattle.rpki_folder.proofs.AnchorSteps.{anchor_is}
use Rattle.rpki_folder.proofs.Descent.{if_err}
use Rattle.rpki_folder.proofs.KeptLimits.{err_ended, tells_nothing}
use Rattle.rpki_folder.proofs.walk.Walk.from_anchor.Goals as goal

pub returns-in_err-issuer-clause-tells : goal.returns-in_err-issuer-clause-tells
returns-in_err-issuer-clause-tells g c =
    let w = c.args.self.now in
    let x = context (g.V.Verifier.verifies w.verifier.now) w.at w.strict in
    let root = at_anchor c.args.tal.now c.args.anchor.now in
    let certs = w.folder.now.certs in (
      [],
      g.met.W.Visitor.begins c.args.visitor.now,
      (λ top begins. tells_nothing x (by_named_lists w.names x w.folder.now.lists)
          (IsLookedAt w.names (g.A.Admission.admits w.admission.now) top certs) root certs w.bounds.depth
          w.bounds.steps c.from_residual.result c.from_residual.ensures.0),
    )

pub returns-in_err-walked-clause-tells : goal.returns-in_err-walked-clause-tells
returns-in_err-walked-clause-tells g c =
    let w = c.args.self.now in
    let x = context (g.V.Verifier.verifies w.verifier.now) w.at w.strict in
    let asked = by_named_lists w.names x w.folder.now.lists in
    let root = at_anchor c.args.tal.now c.args.anchor.now in
    let certs = w.folder.now.certs in
    let b = c.in_err-walked.ensures.tells in
    let leads = c.in_ok-issuer.ensures.ok in
    let t = b.2 root leads in (
      b.0,
      b.1,
      (λ top begins.
          let is = anchor_is x asked c.args.tal.now c.args.anchor.now c.in_ok-issuer.issuer leads
          c.unambiguous.ensures.certificate top begins in
          subst (λ (d : CertFields).
          TellsWithin x asked (IsLookedAt w.names (g.A.Admission.admits w.admission.now) d certs) root certs []
          w.bounds.depth w.bounds.steps (ended_of c.from_residual-in_err-walked.result) b.0) is
          (record {
            right = t.right;
            let_in = t.let_in;
            few = t.few;
            short = if_err (λ (ended : Ended). ended ≡ OutOfSteps →
                IsShort x asked
                (IsLookedAt w.names (g.A.Admission.admits w.admission.now) c.in_ok-issuer.issuer.cert certs) root
                certs [] w.bounds.steps) (ended_of c.from_residual-in_err-walked.result)
                (err_ended c.from_residual-in_err-walked.result c.from_residual-in_err-walked.ensures.0);
            too_deep = if_err (IsTooDeep x asked
                (IsLookedAt w.names (g.A.Admission.admits w.admission.now) c.in_ok-issuer.issuer.cert certs) root
                certs [] w.bounds.depth) (ended_of c.from_residual-in_err-walked.result)
                (err_ended c.from_residual-in_err-walked.result c.from_residual-in_err-walked.ensures.0);
            complete = if_err (IsComplete x asked
                (IsLookedAt w.names (g.A.Admission.admits w.admission.now) c.in_ok-issuer.issuer.cert certs) root
                certs [] w.bounds.depth b.0) (ended_of c.from_residual-in_err-walked.result)
                (err_ended c.from_residual-in_err-walked.result c.from_residual-in_err-walked.ensures.0);
            in_shares = if_err (λ (ended : Ended). IsCompleteInShares x asked
                (IsLookedAt w.names (g.A.Admission.admits w.admission.now) c.in_ok-issuer.issuer.cert certs) root
                certs [] w.bounds.depth w.bounds.steps b.0) (ended_of c.from_residual-in_err-walked.result)
                (err_ended c.from_residual-in_err-walked.result c.from_residual-in_err-walked.ensures.0);
            judged = if_err (λ (ended : Ended). IsJudgedInShares x asked
                (IsLookedAt w.names (g.A.Admission.admits w.admission.now) c.in_ok-issuer.issuer.cert certs) root
                certs [] w.bounds.depth w.bounds.steps b.0) (ended_of c.from_residual-in_err-walked.result)
                (err_ended c.from_residual-in_err-walked.result c.from_residual-in_err-walked.ensures.0);
            enough = if_err (IsEnough x asked
                (IsLookedAt w.names (g.A.Admission.admits w.admission.now) c.in_ok-issuer.issuer.cert certs) root
                certs [] w.bounds.depth w.bounds.steps) (ended_of c.from_residual-in_err-walked.result)
                (err_ended c.from_residual-in_err-walked.result c.from_residual-in_err-walked.ensures.0);
          })),
    )

under : {E : Type 0} (x : Context) (asked : RevocationChecks) (looked : CertFields → List ℕ → ℕ → Type 0)
    (root : Root) (certs : List (List ℕ)) (depth steps : ℕ) (result : Result Ended E) (ts : List Told)
    (one other : CertFields) → one ≡ other → TellsWithin x asked (looked one) root certs [] depth steps result ts →
    TellsWithin x asked (looked other) root certs [] depth steps result ts
under x asked looked root certs depth steps result ts one other is t =
    subst (λ (d : CertFields). TellsWithin x asked (looked d) root certs [] depth steps result ts) is t

pub returns-clause-tells : goal.returns-clause-tells
returns-clause-tells g c =
    let w = c.args.self.now in
    let x = context (g.V.Verifier.verifies w.verifier.now) w.at w.strict in
    let asked = by_named_lists w.names x w.folder.now.lists in
    let root = at_anchor c.args.tal.now c.args.anchor.now in
    let certs = w.folder.now.certs in
    let b = c.in_ok-walked.ensures.tells in
    let leads = c.in_ok-issuer.ensures.ok in
    let t = b.2 root leads in (
      b.0,
      b.1,
      (λ top begins.
          let is = anchor_is x asked c.args.tal.now c.args.anchor.now c.in_ok-issuer.issuer leads
          c.unambiguous.ensures.certificate top begins in
          let u = under x asked
          (λ (d : CertFields). IsLookedAt w.names (g.A.Admission.admits w.admission.now) d certs) root certs
          w.bounds.depth w.bounds.steps _ b.0 c.in_ok-issuer.issuer.cert top is t in
          record {
            right = u.right;
            let_in = u.let_in;
            few = u.few;
            short = u.short;
            too_deep =
                u.too_deep;
            complete = u.complete;
            in_shares = u.in_shares;
            judged = u.judged;
            enough = u.enough;
          }),
    )

pub returns-clause-limits : goal.returns-clause-limits
returns-clause-limits g c =
    let w = c.args.self.now in
    let x = context (g.V.Verifier.verifies w.verifier.now) w.at w.strict in
    let asked = by_named_lists w.names x w.folder.now.lists in
    let root = at_anchor c.args.tal.now c.args.anchor.now in
    let certs = w.folder.now.certs in
    let leads = c.in_ok-issuer.ensures.ok in
    let told = c.in_ok-walked.ensures.limits in (
      told.0,
      subst (λ (n : ℕ). HasReached n (length certs) told.0 c.in_ok-walked.field-0) (ap length c.certs.ensures) told.1,
      (λ top begins.
          let is = anchor_is x asked c.args.tal.now c.args.anchor.now c.in_ok-issuer.issuer leads
          c.unambiguous.ensures.certificate top begins in
          subst (λ (d : CertFields).
          AreLimited x asked (IsLookedAt w.names (g.A.Admission.admits w.admission.now) d certs) root certs
          w.bounds.depth w.bounds.steps told.0) is (told.2 root leads)),
    )

pub returns-clause-anchor : goal.returns-clause-anchor
returns-clause-anchor g c = (c.in_ok-issuer.issuer, c.in_ok-issuer.ensures.ok, c.in_ok-issuer.ensures.named)
