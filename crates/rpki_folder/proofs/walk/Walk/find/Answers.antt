use Rattle.std.specs.Prelude.{Option, None, Some}
use Rattle.std.proofs.Common.{refl, sym, subst, ◌∙◌}
use Rattle.rpki_cert.specs.Verification.{context}
use Rattle.rpki_path.specs.AskedLists.{by_named_lists}
use Rattle.rpki_folder.specs.Searches.{IsSought}
use Rattle.rpki_folder.specs.Walks.{at_anchor, IsLookedAt}
use Rattle.rpki_folder.specs.declared.find.FoundPath.{FoundPath}
use Rattle.rpki_folder.proofs.AnchorSteps.{top, top_begins}
use Rattle.rpki_folder.proofs.KeptLineSteps.{told_so}
use Rattle.rpki_folder.proofs.SearchSteps.{found_right, told_let_in, none_told}
use Rattle.rpki_folder.proofs.walk.Walk.find.Goals as goal

pub returns-in-Some-clause-found : goal.returns-in-Some-clause-found
returns-in-Some-clause-found g c =
    let w = c.args.self.now in
    let x = context (g.V.Verifier.verifies w.verifier.now) w.at w.strict in
    let asked = by_named_lists w.names x w.folder.now.lists in
    let t = c.args.tal.now in
    let anchor = c.args.anchor.now in
    let path = c.in-Some.path in
    let b = c.in_ok-walked.ensures.tells in
    let v = c.in_ok-walked.ensures.anchor in
    let first = b.2 (top x asked t anchor v.0 v.1) (top_begins x asked t anchor v.0 v.1) in
    let sought : IsSought c.args.place b.0 (Some path) =
    subst (λ (f : Option FoundPath). IsSought c.args.place b.0 f) (sym c.into_found.ensures ∙ c.in-Some.is)
    (b.1.1 refl) in (
      found_right x asked (at_anchor t anchor) w.folder.now.certs c.args.place b.0 path first.right sought,
      (λ d begins. told_let_in (IsLookedAt w.names (g.A.Admission.admits w.admission.now) d w.folder.now.certs)
          c.args.place b.0 path.above.items (b.2 d begins).let_in (told_so b.0 c.args.place path sought)),
    )

pub returns-in-None-clause-found : goal.returns-in-None-clause-found
returns-in-None-clause-found g c =
    let b = c.in_ok-walked.ensures.tells in
    let none : IsSought c.args.place b.0 None = subst (λ (f : Option FoundPath). IsSought c.args.place b.0 f)
    (sym c.into_found.ensures ∙ c.in-None.is) (b.1.1 refl) in (
      (λ d above begins covers admitted reached. none_told c.args.place b.0 above none
          ((b.2 d begins).complete above c.args.place covers admitted reached)),
      (b.0, b.2),
    )
