use Rattle.std.specs.Global.{Vec}
use Rattle.std.specs.Prelude.{Contains, Option, None, Some}
use Rattle.std.proofs.Common.{◌≡◌, ◌+◌, ℕ, List, [], ◌∷◌, ◌++◌, length, take, get_or, refl, sym, subst}
use Rattle.std.proofs.Common.{append_assoc, arith}
use Rattle.std.proofs.lemmas.List.{append-nil, take_more, take_all, length-append}
use Rattle.std.proofs.lemmas.List.Elements.{Contains-get_or}
use Rattle.rpki_der.proofs.Formats.{one_meant}
use Rattle.rpki_cert.specs.Certificates.{CertFields, IsCertificate}
use Rattle.rpki_cert.specs.Verification.{context, ResourceFields, IsSignedBy}
use Rattle.rpki_path.specs.AskedLists.{by_named_lists}
use Rattle.rpki_folder.specs.declared.walk.Ca.{Ca}
use Rattle.rpki_folder.specs.Folders.{string_at}
use Rattle.rpki_folder.specs.Walks.{Told, told_at}
use Rattle.rpki_folder.specs.Walks.Steps.{IsOutcome, AreJudged, IsToldOf}
use Rattle.rpki_folder.proofs.Descent.{all_append, if_err}
use Rattle.rpki_folder.proofs.OnceLists.{once_apart}
use Rattle.rpki_folder.proofs.ChildSteps.{none_judged, judged_other, judged_ca}
use Rattle.rpki_folder.proofs.walk.Walk.judge_children.Goals as goal

pub loop-place-init : goal.loop-place-init
loop-place-init g c = λ v ts heard.
    let w = c.args.self.now in
    let x = context (g.V.Verifier.verifies w.verifier.now) w.at w.strict in
    let asked = by_named_lists w.names x w.folder.now.lists in
    let certs = w.folder.now.certs in
    let issuer = c.args.issuer.now in
    let above = c.args.above.now in (
      [],
      subst (λ (l : List Told). g.W.Visitor.became v l c.args.visitor.now) (sym (append-nil ts)) heard,
      refl,
      tt,
      subst (λ (k : List Ca). AreJudged x asked issuer certs above [] k []) (sym c.new-cas.ensures.items)
          (none_judged x asked issuer certs above),
    )

pub judge-requires : goal.judge-requires
judge-requires g c =
    let w = c.args.self.now in
    let verifies = g.V.Verifier.verifies w.verifier.now in
    let certs = w.folder.now.certs in
    let issuer = c.args.issuer.now.cert in
    let children = c.args.children.now in
    let i = c.loop-place.place-index in
    let place = get_or children i 0 in
    let at = Contains-get_or children i 0 c.loop-place-test.true in
    let child = c.requires.children place at in
    record {
      place = c.requires.inside place at;
      kept = c.requires.kept;
      signed = λ d stands.
          let same = one_meant IsCertificate c.unambiguous.ensures.certificate child.cert d (string_at certs place)
          child.stands stands in (
            (λ yes. subst (λ (e : CertFields). IsSignedBy verifies issuer.fields.key e.signed_data) same
                child.signed),
            (λ signed. refl),
          );
    }

pub loop-place-preserved-in_default : goal.loop-place-preserved-in_default
loop-place-preserved-in_default g c = λ v ts heard.
    let w = c.args.self.now in
    let x = context (g.V.Verifier.verifies w.verifier.now) w.at w.strict in
    let asked = by_named_lists w.names x w.folder.now.lists in
    let certs = w.folder.now.certs in
    let issuer = c.args.issuer.now in
    let above = c.args.above.now in
    let children = c.args.children.now in
    let index = c.loop-place.place-index in
    let place = get_or children index 0 in
    let cas = c.loop-place.cas.items in
    let i = c.loop-place.invariant v ts heard in
    let o = c.in_ok-next.ensures.ok v (ts ++ i.0) i.1 in
    let item = told_at above place o.0 in
    let outcome : IsOutcome x asked issuer (string_at certs place) o.0 None =
    subst (λ (n : Option ResourceFields). IsOutcome x asked issuer (string_at certs place) o.0 n)
    c.in_default.is o.2 in
    let count : length (i.0 ++ item ∷ []) ≡ length i.0 + 1 = length-append i.0 (item ∷ []) in (
      i.0 ++ item ∷ [],
      subst (λ (l : List Told). g.W.Visitor.became v l c.judge.new.visitor) (append_assoc ts i.0 (item ∷ [])) o.1,
      omega (arith, count, i.2),
      all_append (IsToldOf x asked issuer certs above (λ p. Contains children p)) i.0 (item ∷ []) i.3
          ((refl, Contains-get_or children index 0 c.loop-place-test.true, (None, outcome)), tt),
      subst (λ (l : List ℕ). AreJudged x asked issuer certs above l cas (i.0 ++ item ∷ []))
          (sym (take_more children index 0 c.loop-place-test.true))
          (judged_other x asked issuer certs above (take index children) cas i.0 i.4 place o.0 outcome),
    )

pub loop-place-preserved : goal.loop-place-preserved
loop-place-preserved g c = λ v ts heard.
    let w = c.args.self.now in
    let x = context (g.V.Verifier.verifies w.verifier.now) w.at w.strict in
    let asked = by_named_lists w.names x w.folder.now.lists in
    let certs = w.folder.now.certs in
    let issuer = c.args.issuer.now in
    let above = c.args.above.now in
    let children = c.args.children.now in
    let index = c.loop-place.place-index in
    let place = get_or children index 0 in
    let cas = c.loop-place.cas.items in
    let holder = c.in-Some.holder in
    let one : Ca = record { place = place; holder = holder } in
    let i = c.loop-place.invariant v ts heard in
    let o = c.in_ok-next.ensures.ok v (ts ++ i.0) i.1 in
    let item = told_at above place o.0 in
    let outcome : IsOutcome x asked issuer (string_at certs place) o.0 (Some holder) =
    subst (λ (n : Option ResourceFields). IsOutcome x asked issuer (string_at certs place) o.0 n) c.in-Some.is
    o.2 in
    let count : length (i.0 ++ item ∷ []) ≡ length i.0 + 1 = length-append i.0 (item ∷ []) in (
      i.0 ++ item ∷ [],
      subst (λ (l : List Told). g.W.Visitor.became v l c.judge.new.visitor) (append_assoc ts i.0 (item ∷ [])) o.1,
      omega (arith, count, i.2),
      all_append (IsToldOf x asked issuer certs above (λ p. Contains children p)) i.0 (item ∷ []) i.3
          ((refl, Contains-get_or children index 0 c.loop-place-test.true, (Some holder, outcome)), tt),
      subst (λ (k : List Ca). AreJudged x asked issuer certs above (take (index + 1) children) k (i.0 ++ item ∷ []))
          (sym c.in_ok-push.ensures.items)
          (subst (λ (l : List ℕ). AreJudged x asked issuer certs above l (cas ++ one ∷ []) (i.0 ++ item ∷ []))
          (sym (take_more children index 0 c.loop-place-test.true))
          (judged_ca x asked issuer certs above (take index children) cas i.0 i.4 place o.0
          (once_apart children index 0 c.requires.once c.loop-place-test.true) holder outcome)),
    )

pub returns-in_err-push : goal.returns-in_err-push
returns-in_err-push g c = λ v ts heard.
    let w = c.args.self.now in
    let x = context (g.V.Verifier.verifies w.verifier.now) w.at w.strict in
    let asked = by_named_lists w.names x w.folder.now.lists in
    let certs = w.folder.now.certs in
    let issuer = c.args.issuer.now in
    let above = c.args.above.now in
    let children = c.args.children.now in
    let index = c.loop-place.place-index in
    let place = get_or children index 0 in
    let i = c.loop-place.invariant v ts heard in
    let o = c.in_ok-next.ensures.ok v (ts ++ i.0) i.1 in
    let item = told_at above place o.0 in
    let count : length (i.0 ++ item ∷ []) ≡ length i.0 + 1 = length-append i.0 (item ∷ []) in (
      i.0 ++ item ∷ [],
      subst (λ (l : List Told). g.W.Visitor.became v l c.judge.new.visitor) (append_assoc ts i.0 (item ∷ [])) o.1,
      omega (arith, count, i.2, c.loop-place-test.true),
      all_append (IsToldOf x asked issuer certs above (λ p. Contains children p)) i.0 (item ∷ []) i.3
          ((refl, Contains-get_or children index 0 c.loop-place-test.true, (c.in_ok-next.next, o.2)), tt),
      if_err (λ (k : Vec Ca). AreJudged x asked issuer certs above children k.items (i.0 ++ item ∷ []))
          c.from_residual-in_err-push.result c.from_residual-in_err-push.ensures.0,
    )

pub returns : goal.returns
returns g c = λ v ts heard.
    let w = c.args.self.now in
    let x = context (g.V.Verifier.verifies w.verifier.now) w.at w.strict in
    let asked = by_named_lists w.names x w.folder.now.lists in
    let children = c.args.children.now in
    let i = c.loop-place.invariant v ts heard in
    let low = c.loop-place.place-index in (
      i.0,
      i.1,
      omega (arith, i.2),
      i.3,
      subst (λ (l : List ℕ). AreJudged x asked c.args.issuer.now w.folder.now.certs c.args.above.now l
          c.loop-place.cas.items i.0) (take_all c.loop-place.place-index children c.loop-place-test.false) i.4,
    )
