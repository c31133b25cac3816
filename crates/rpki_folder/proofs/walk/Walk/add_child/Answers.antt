use Rattle.std.specs.Prelude.{Result, Ok, Err, OnOk}
use Rattle.std.proofs.Common.{◌≡◌, ℕ, List, [], refl, sym, subst, inl, inr}
use Rattle.std.proofs.lemmas.List.{append-nil}
use Rattle.rpki_cert.specs.Verification.{context}
use Rattle.rpki_path.specs.AskedLists.{by_named_lists}
use Rattle.rpki_folder.specs.declared.children.Claim.{Claim}
use Rattle.rpki_folder.specs.declared.children.Claim.TheVariants.{OtherName, Child, Other}
use Rattle.rpki_folder.specs.Walks.{Told}
use Rattle.rpki_folder.specs.Walks.Steps.{IsClaim, IsOther}
use Rattle.rpki_folder.proofs.ClaimSteps.{other_name, a_child, known_of, no_child, an_other, told_weaker}
use Rattle.rpki_folder.proofs.walk.Walk.add_child.Goals as goal

-- what holds whatever was answered
whatever : {T E P : Type 0} (r : Result T E) → P → OnOk r P
whatever (Ok t) p = p
whatever (Err e) p = tt

pub returns-in_err-claim-clause-told : goal.returns-in_err-claim-clause-told
returns-in_err-claim-clause-told g c =
    λ v ts heard.
    ([], subst (λ (l : List Told). g.W.Visitor.became v l c.args.visitor.now) (sym (append-nil ts)) heard, tt)

pub returns-in-OtherName-clause-told : goal.returns-in-OtherName-clause-told
returns-in-OtherName-clause-told g c =
    λ v ts heard.
    ([], subst (λ (l : List Told). g.W.Visitor.became v l c.args.visitor.now) (sym (append-nil ts)) heard, tt)

pub returns-in-OtherName-clause-children : goal.returns-in-OtherName-clause-children
returns-in-OtherName-clause-children g c =
    let w = c.args.self.now in
    let verifies = g.V.Verifier.verifies w.verifier.now in
    let claim : IsClaim w.names verifies c.args.issuer.now.cert w.folder.now.certs c.args.place OtherName =
    subst (λ (k : Claim). IsClaim w.names verifies c.args.issuer.now.cert w.folder.now.certs c.args.place k)
    c.in-OtherName.is c.in_ok-claim.ensures in
    inr (
      refl,
      λ named child. other_name c.unambiguous.ensures.certificate w.names verifies c.args.issuer.now.cert
          w.folder.now.certs c.args.place claim named,
    )

pub returns-in_err-push-in-Child-clause-told : goal.returns-in_err-push-in-Child-clause-told
returns-in_err-push-in-Child-clause-told g c =
    λ v ts heard.
    ([], subst (λ (l : List Told). g.W.Visitor.became v l c.args.visitor.now) (sym (append-nil ts)) heard, tt)

pub returns-in_ok-push-in-Child-clause-told : goal.returns-in_ok-push-in-Child-clause-told
returns-in_ok-push-in-Child-clause-told g c =
    λ v ts heard.
    ([], subst (λ (l : List Told). g.W.Visitor.became v l c.args.visitor.now) (sym (append-nil ts)) heard, tt)

pub returns-in_ok-push-in-Child-clause-children : goal.returns-in_ok-push-in-Child-clause-children
returns-in_ok-push-in-Child-clause-children g c =
    let w = c.args.self.now in
    let verifies = g.V.Verifier.verifies w.verifier.now in
    let claim : IsClaim w.names verifies c.args.issuer.now.cert w.folder.now.certs c.args.place Child =
    subst (λ (k : Claim). IsClaim w.names verifies c.args.issuer.now.cert w.folder.now.certs c.args.place k)
    c.in-Child.is c.in_ok-claim.ensures in
    let child = a_child c.unambiguous.ensures.certificate w.names verifies c.args.issuer.now.cert w.folder.now.certs
    c.args.place claim c.requires.names in
    inl (c.in_ok-push-in-Child.ensures.items, child.0, child.1)

pub tell_other-requires : goal.tell_other-requires
tell_other-requires g c =
    let w = c.args.self.now in
    let verifies = g.V.Verifier.verifies w.verifier.now in
    let signed = c.in-Other.is_signed in
    let claim : IsClaim w.names verifies c.args.issuer.now.cert w.folder.now.certs c.args.place (Other signed) =
    subst (λ (k : Claim). IsClaim w.names verifies c.args.issuer.now.cert w.folder.now.certs c.args.place k)
    c.in-Other.is c.in_ok-claim.ensures in
    record {
      place = c.requires.place;
      kept = c.requires.kept;
      signed = λ d stands. known_of c.unambiguous.ensures.certificate w.names verifies c.args.issuer.now.cert
          w.folder.now.certs c.args.place signed claim d stands;
    }

pub returns-in-Other-clause-told : goal.returns-in-Other-clause-told
returns-in-Other-clause-told g c = λ v ts heard.
    let w = c.args.self.now in
    let verifies = g.V.Verifier.verifies w.verifier.now in
    let x = context verifies w.at w.strict in
    let certs = w.folder.now.certs in
    let issuer = c.args.issuer.now in
    let above = c.args.above.now in
    let place = c.args.place in
    let admits = g.A.Admission.admits w.admission.now in
    let signed = c.in-Other.is_signed in
    let claim : IsClaim w.names verifies issuer.cert certs place (Other signed) =
    subst (λ (k : Claim). IsClaim w.names verifies issuer.cert certs place k) c.in-Other.is
    c.in_ok-claim.ensures in
    let o = c.tell_other.ensures v ts heard in (
      o.0,
      o.1,
      told_weaker x (by_named_lists w.names x w.folder.now.lists) issuer certs above
          (λ p. (p ≡ place) × admits above p) (IsOther verifies w.names admits issuer.cert certs above)
          (λ p h. subst (λ (q : ℕ). IsOther verifies w.names admits issuer.cert certs above q) (sym h.0)
          (an_other c.unambiguous.ensures.certificate w.names verifies issuer.cert certs place signed claim admits
          above (subst (λ (q : ℕ). admits above q) h.0 h.1)))
          o.0 o.2,
    )

pub returns-in-Other-clause-children : goal.returns-in-Other-clause-children
returns-in-Other-clause-children g c =
    let w = c.args.self.now in
    let verifies = g.V.Verifier.verifies w.verifier.now in
    let signed = c.in-Other.is_signed in
    let claim : IsClaim w.names verifies c.args.issuer.now.cert w.folder.now.certs c.args.place (Other signed) =
    subst (λ (k : Claim). IsClaim w.names verifies c.args.issuer.now.cert w.folder.now.certs c.args.place k)
    c.in-Other.is c.in_ok-claim.ensures in
    whatever c.tell_other.result
    (inr (
      refl,
      λ named child. no_child c.unambiguous.ensures.certificate w.names verifies
          c.args.issuer.now.cert w.folder.now.certs c.args.place signed claim child,
    ))
