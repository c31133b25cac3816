use Rattle.std.proofs.Common.{ℕ, List, [], ◌++◌, get_or, sym, subst, append_assoc}
use Rattle.std.proofs.lemmas.List.{append-nil, take_all}
use Rattle.std.proofs.lemmas.List.Elements.{Contains-get_or}
use Rattle.rpki_cert.specs.Verification.{context}
use Rattle.rpki_path.specs.AskedLists.{by_named_lists}
use Rattle.rpki_folder.specs.Walks.{Told, IsNamedUnder}
use Rattle.rpki_folder.specs.Walks.Steps.{AreChildrenAmong, IsOther, IsToldOf}
use Rattle.rpki_folder.proofs.Descent.{all_append}
use Rattle.rpki_folder.proofs.ChildSteps.{none_among, added_among}
use Rattle.rpki_folder.proofs.ClaimSteps.{all_children}
use Rattle.rpki_folder.proofs.walk.Walk.children.Goals as goal

pub loop-place-init : goal.loop-place-init
loop-place-init g c =
    let w = c.args.self.now in
    let certs = w.folder.now.certs in
    let issuer = c.args.issuer.now.cert in
    let verifies = g.V.Verifier.verifies w.verifier.now in
    let lets_in = λ (p : ℕ). IsNamedUnder w.names issuer certs p in (
      (λ v ts heard. (
        [],
        subst (λ (l : List Told). g.W.Visitor.became v l c.args.visitor.now) (sym (append-nil ts))
            heard,
        tt,
      )),
      subst (λ (l : List ℕ). AreChildrenAmong verifies lets_in issuer certs [] l) (sym c.new-children.ensures.items)
          (none_among verifies lets_in issuer certs),
    )

pub add_child-requires : goal.add_child-requires
add_child-requires g c =
    let places = c.args.places.now in
    let i = c.loop-place.place-index in
    let at = Contains-get_or places i 0 c.loop-place-test.true in
    record {
      place = c.requires.places.inside (get_or places i 0) at;
      names =
          c.requires.places.only (get_or places i 0) at;
      kept = c.requires.kept;
    }

pub returns-in_err-add_child-clause-told : goal.returns-in_err-add_child-clause-told
returns-in_err-add_child-clause-told g c = λ v ts heard.
    let w = c.args.self.now in
    let verifies = g.V.Verifier.verifies w.verifier.now in
    let x = context verifies w.at w.strict in
    let certs = w.folder.now.certs in
    let issuer = c.args.issuer.now in
    let above = c.args.above.now in
    let i = c.loop-place.invariant.0 v ts heard in
    let o = c.add_child.ensures.told v (ts ++ i.0) i.1 in (
      i.0 ++ o.0,
      subst (λ (l : List Told). g.W.Visitor.became v l c.add_child.new.visitor) (append_assoc ts i.0 o.0) o.1,
      all_append (IsToldOf x (by_named_lists w.names x w.folder.now.lists) issuer certs above
          (IsOther verifies w.names (g.A.Admission.admits w.admission.now) issuer.cert certs above)) i.0 o.0 i.2
          o.2,
    )

pub loop-place-preserved : goal.loop-place-preserved
loop-place-preserved g c =
    let w = c.args.self.now in
    let verifies = g.V.Verifier.verifies w.verifier.now in
    let x = context verifies w.at w.strict in
    let certs = w.folder.now.certs in
    let issuer = c.args.issuer.now in
    let above = c.args.above.now in
    let places = c.args.places.now in
    let index = c.loop-place.place-index in
    let lets_in = λ (p : ℕ). IsNamedUnder w.names issuer.cert certs p in (
      (λ v ts heard.
          let i = c.loop-place.invariant.0 v ts heard in
          let o = c.in_ok-add_child.ensures.told v (ts ++ i.0) i.1 in (
            i.0 ++ o.0,
            subst (λ (l : List Told). g.W.Visitor.became v l c.add_child.new.visitor) (append_assoc ts i.0 o.0) o.1,
            all_append (IsToldOf x (by_named_lists w.names x w.folder.now.lists) issuer certs above
                (IsOther verifies w.names (g.A.Admission.admits w.admission.now) issuer.cert certs above)) i.0 o.0
                i.2 o.2,
          )),
      added_among verifies lets_in issuer.cert certs places index c.loop-place-test.true c.loop-place.children.items
          c.loop-place.invariant.1 c.add_child.new.children.items c.requires.places.once
          c.in_ok-add_child.ensures.children,
    )

pub returns-clause-children : goal.returns-clause-children
returns-clause-children g c =
    let w = c.args.self.now in
    let verifies = g.V.Verifier.verifies w.verifier.now in
    let certs = w.folder.now.certs in
    let issuer = c.args.issuer.now.cert in
    let places = c.args.places.now in
    let all : AreChildrenAmong verifies (λ p. IsNamedUnder w.names issuer certs p) issuer certs places
    c.loop-place.children.items =
    subst (λ (l : List ℕ). AreChildrenAmong verifies (λ p. IsNamedUnder w.names issuer certs p) issuer certs l
    c.loop-place.children.items) (take_all c.loop-place.place-index places c.loop-place-test.false)
    c.loop-place.invariant.1 in
    all_children w.names verifies issuer certs places c.loop-place.children.items c.requires.places all
