-- Below each CA: what is told is put together. Below an issuer: its children, and then each accepted CA among them.
use Rattle.std.specs.Prelude.{Result, Ok, Bool, true, ◌==◌, Contains, Option, IfSome, slice_index_or}
use Rattle.std.specs.Global.{Vec}
use Rattle.std.specs.declared.alloc.AllocError.{AllocError}
use Rattle.std.proofs.Common.{rules, ◌≡◌, ◌+◌, ◌-◌, ◌*◌, ◌/◌, ◌<◌, ◌≤◌, ℕ, List, [], ◌∷◌, ◌++◌, length, take, refl}
use Rattle.std.proofs.Common.{sym, ap, subst, ◌∙◌, append_assoc, arith}
use Rattle.std.proofs.lemmas.Bool.{eqb-true}
use Rattle.std.proofs.lemmas.List.{append-nil, take_more, take_all}
use Rattle.std.proofs.lemmas.List.Elements.{Contains-get_or}
use Rattle.rpki_cert.specs.Verification.{context}
use Rattle.rpki_path.specs.AskedLists.{by_named_lists}
use Rattle.rpki_folder.specs.declared.bounds.Ended.{Ended}
use Rattle.rpki_folder.specs.declared.walk.Below.{Below}
use Rattle.rpki_folder.specs.declared.walk.Ca.{Ca}
use Rattle.rpki_folder.specs.Folders.{IsOnce}
use Rattle.rpki_folder.specs.IssuerTables.{IsKeptOf}
use Rattle.rpki_folder.specs.Walks.{Told, TellsBelow, StandsAt, IsLastOf, IsLookedAt, IsChildOf}
use Rattle.rpki_folder.specs.declared.issuers.Issuer.{Issuer}
use Rattle.rpki_folder.specs.ReachedLimits.{IsToldNumber}
use Rattle.rpki_folder.specs.ReachedLimits.Steps.{CostIs, KeepsBelow, KeepsBelowEach}
use Rattle.rpki_folder.specs.Walks.Steps.{AreJudged, WalksBelowEach}
use Rattle.rpki_folder.proofs.KeptIssuers.{kept_at}
use Rattle.rpki_folder.proofs.Descent.{there as low_of, ca_stands, if_ok, ok_if}
use Rattle.rpki_folder.proofs.Shares.{take_within, take_shorter, each_none, each_stops, each_fails, each_walked}
use Rattle.rpki_folder.proofs.LookedAt.{last_pushed, inside_pushed}
use Rattle.rpki_folder.proofs.KeptLimits.{keeps_each_none, keeps_each_more, keeps_childless, keeps_deep}
use Rattle.rpki_folder.proofs.KeptLimits.{keeps_short, keeps_each, keeps_last}
use Rattle.rpki_folder.proofs.BelowIssuer.{told_here, none_here, some_here, children_here, judged_here}
use Rattle.rpki_folder.proofs.BelowIssuer.{at_err, at_none, at_depth, at_short, judged_err, at_last, at_each}
use Rattle.rpki_folder.proofs.StepAnswers.{popped}
use Rattle.rpki_folder.proofs.walk.Walk.+descend.Goals as goal

-- ---- below each CA

pub each_below-loop-ca-init : goal.each_below-loop-ca-init
each_below-loop-ca-init g t c =
    let w = c.args.self.now in
    let x = context (g.V.Verifier.verifies w.verifier.now) w.at w.strict in
    let asked = by_named_lists w.names x w.folder.now.lists in
    let certs = w.folder.now.certs in
    let admits = IsLookedAt w.names (g.A.Admission.admits w.admission.now) c.args.top.now.cert certs in (
      refl {A = List ℕ},
      c.requires.kept,
      (λ v ts heard. (
        [],
        subst (λ (l : List Told). g.W.Visitor.became v l c.args.visitor.now) (sym (append-nil ts)) heard,
        (λ root leads. each_none x asked admits root certs c.args.trail.now.above.items c.args.depth
            c.args.share.steps {E = AllocError}),
      )),
      keeps_each_none x asked admits certs c.args.trail.now.above.items c.args.depth c.args.share
          c.args.trail.now.limits,
    )

pub each_below-descend-below-requires : goal.each_below-descend-below-requires
each_below-descend-below-requires g t c =
    let certs = c.args.self.now.folder.now.certs in
    let top = c.args.top.now.cert in
    let above = c.args.trail.now.above.items in
    let cas = c.args.cas.now in
    let index = c.loop-ca.ca-index in
    let ca = c.ca-item.result in
    let at : Contains cas ca = subst (λ (k : Ca). Contains cas k) (sym c.ca-item.is)
    (Contains-get_or cas index ca c.loop-ca-test.true) in
    let stands : StandsAt certs ca.place ca.holder.cert = c.requires.stand ca at in
    let deeper = c.in_ok-push.ensures.items ∙ ap (λ (l : List ℕ). l ++ ca.place ∷ []) c.loop-ca.invariant.0 in
    let low : ca.place < length certs = low_of certs ca.holder.cert ca.place stands in
    let inside = subst (λ (l : List ℕ). (p : ℕ) → Contains l p → p < length certs) (sym deeper)
    (inside_pushed top certs above ca.place c.requires.inside low) in
    let last = subst (λ (l : List ℕ). IsLastOf top certs l ca.holder.cert) (sym deeper)
    (last_pushed top certs above ca.place ca.holder.cert stands) in
    let kept = c.loop-ca.invariant.1 in
    search (rules, inside, last, kept)

pub each_below-returns-in_err-push-clause-tells : goal.each_below-returns-in_err-push-clause-tells
each_below-returns-in_err-push-clause-tells g t c = λ v ts heard.
    let w = c.args.self.now in
    let x = context (g.V.Verifier.verifies w.verifier.now) w.at w.strict in
    let asked = by_named_lists w.names x w.folder.now.lists in
    let certs = w.folder.now.certs in
    let admits = IsLookedAt w.names (g.A.Admission.admits w.admission.now) c.args.top.now.cert certs in
    let cas = c.args.cas.now in
    let index = c.loop-ca.ca-index in
    let i = c.loop-ca.invariant.2 v ts heard in (
      i.0,
      i.1,
      (λ root leads. each_stops x asked admits root certs c.args.trail.now.above.items c.args.depth
          c.args.share.steps (take index cas) cas i.0 (Ok c.loop-ca.ended) c.from_residual.result
          (take_within cas index) (let low = take_shorter cas index c.loop-ca-test.true in omega (arith, low))
          (i.2 root (λ k at. leads k (take_within cas index k at))) c.from_residual.ensures.0),
    )

pub each_below-returns-in_err-below-clause-tells : goal.each_below-returns-in_err-below-clause-tells
each_below-returns-in_err-below-clause-tells g t c = λ v ts heard.
    let w = c.args.self.now in
    let x = context (g.V.Verifier.verifies w.verifier.now) w.at w.strict in
    let asked = by_named_lists w.names x w.folder.now.lists in
    let certs = w.folder.now.certs in
    let admits = IsLookedAt w.names (g.A.Admission.admits w.admission.now) c.args.top.now.cert certs in
    let above = c.args.trail.now.above.items in
    let cas = c.args.cas.now in
    let index = c.loop-ca.ca-index in
    let ca = c.ca-item.result in
    let i = c.loop-ca.invariant.2 v ts heard in
    let b = c.descend-below.ensures.tells v (ts ++ i.0) i.1 in
    let deeper = c.in_ok-push.ensures.items ∙ ap (λ (l : List ℕ). l ++ ca.place ∷ []) c.loop-ca.invariant.0 in
    let below : TellsBelow x asked admits ca.holder certs (above ++ ca.place ∷ []) c.args.depth c.args.share.steps
    c.descend-below.result b.0 =
    subst (λ (l : List ℕ). TellsBelow x asked admits ca.holder certs l c.args.depth c.args.share.steps
    c.descend-below.result b.0) deeper b.2 in
    let at : Contains cas ca = subst (λ (k : Ca). Contains cas k) (sym c.ca-item.is)
    (Contains-get_or cas index ca c.loop-ca-test.true) in (
      i.0 ++ b.0,
      subst (λ (l : List Told). g.W.Visitor.became v l c.descend-below.new.visitor) (append_assoc ts i.0 b.0) b.1,
      (λ root leads. each_fails x asked admits root certs above c.args.depth c.args.share.steps cas index ca
          (take_within cas index) (take_shorter cas index c.loop-ca-test.true) at i.0 b.0 (Ok c.loop-ca.ended)
          c.descend-below.result c.from_residual-in_err-below.result
          (i.2 root (λ k among. leads k (take_within cas index k among))) (below root (leads ca at))
          c.from_residual-in_err-below.ensures.0),
    )

pub each_below-loop-ca-preserved : goal.each_below-loop-ca-preserved
each_below-loop-ca-preserved g t c =
    let above = c.args.trail.now.above.items in
    let cas = c.args.cas.now in
    let index = c.loop-ca.ca-index in
    let ca = c.ca-item.result in
    let deeper = c.in_ok-push.ensures.items ∙ ap (λ (l : List ℕ). l ++ ca.place ∷ []) c.loop-ca.invariant.0 in (
      c.pop.ensures.rest ∙ popped c.descend-below.new.trail.above above ca.place (c.in_ok-below.ensures.trail ∙ deeper),
      c.in_ok-below.ensures.kept,
      (λ v ts heard.
          let w = c.args.self.now in
          let x = context (g.V.Verifier.verifies w.verifier.now) w.at w.strict in
          let asked = by_named_lists w.names x w.folder.now.lists in
          let certs = w.folder.now.certs in
          let admits = IsLookedAt w.names (g.A.Admission.admits w.admission.now) c.args.top.now.cert certs in
          let end = c.in_ok-below.field-0 in
          let i = c.loop-ca.invariant.2 v ts heard in
          let b = c.descend-below.ensures.tells v (ts ++ i.0) i.1 in
          let below : TellsBelow x asked admits ca.holder certs (above ++ ca.place ∷ []) c.args.depth
          c.args.share.steps c.descend-below.result b.0 =
          subst (λ (l : List ℕ). TellsBelow x asked admits ca.holder certs l c.args.depth c.args.share.steps
          c.descend-below.result b.0) deeper b.2 in
          let ended : TellsBelow x asked admits ca.holder certs (above ++ ca.place ∷ []) c.args.depth
          c.args.share.steps (Ok end) b.0 =
          subst (λ (r : Result Ended AllocError). TellsBelow x asked admits ca.holder certs
          (above ++ ca.place ∷ []) c.args.depth c.args.share.steps r b.0) c.in_ok-below.was below in
          let next : take (index + 1) cas ≡ take index cas ++ ca ∷ [] = take_more cas index ca c.loop-ca-test.true ∙
          ap (λ (k : Ca). take index cas ++ k ∷ []) (sym c.ca-item.is) in (
            i.0 ++ b.0,
            subst (λ (l : List Told). g.W.Visitor.became v l c.descend-below.new.visitor) (append_assoc ts i.0 b.0) b.1,
            subst (λ (l : List Ca). WalksBelowEach {E = AllocError} x asked admits certs above c.args.depth
                c.args.share.steps l (Ok c.and-ended.result) (i.0 ++ b.0)) (sym next)
                (subst (λ (e : Ended). WalksBelowEach {E = AllocError} x asked admits certs above c.args.depth
                c.args.share.steps (take index cas ++ ca ∷ []) (Ok e) (i.0 ++ b.0)) (sym c.and-ended.ensures)
                (each_walked x asked admits certs above c.args.depth c.args.share.steps {E = AllocError}
                (take index cas) ca i.0 b.0 c.loop-ca.ended end i.2 ended)),
          )),
      (
          let w = c.args.self.now in
          let x = context (g.V.Verifier.verifies w.verifier.now) w.at w.strict in
          let asked = by_named_lists w.names x w.folder.now.lists in
          let certs = w.folder.now.certs in
          let admits = IsLookedAt w.names (g.A.Admission.admits w.admission.now) c.args.top.now.cert certs in
          let end = c.in_ok-below.field-0 in
          let old = c.args.trail.now.limits in
          let mid = c.loop-ca.trail.limits in
          let new = c.descend-below.new.trail.limits in
          let next : take (index + 1) cas ≡ take index cas ++ ca ∷ [] = take_more cas index ca c.loop-ca-test.true ∙
          ap (λ (k : Ca). take index cas ++ k ∷ []) (sym c.ca-item.is) in
          let below = subst (λ (l : List ℕ). KeepsBelow x asked admits ca.holder certs l c.args.depth c.args.share
          mid new end) deeper c.in_ok-below.ensures.limits in
          subst (λ (l : List Ca). KeepsBelowEach x asked admits certs above c.args.depth c.args.share l old new
          c.and-ended.result) (sym next)
          (subst (λ (e : Ended). KeepsBelowEach x asked admits certs above c.args.depth c.args.share
          (take index cas ++ ca ∷ []) old new e) (sym c.and-ended.ensures)
          (keeps_each_more x asked admits certs above c.args.depth c.args.share (take index cas) ca old mid new
          c.loop-ca.ended end c.loop-ca.invariant.3 below))
          ),
    )

pub each_below-returns-clause-tells : goal.each_below-returns-clause-tells
each_below-returns-clause-tells g t c = λ v ts heard.
    let w = c.args.self.now in
    let x = context (g.V.Verifier.verifies w.verifier.now) w.at w.strict in
    let asked = by_named_lists w.names x w.folder.now.lists in
    let certs = w.folder.now.certs in
    let admits = IsLookedAt w.names (g.A.Admission.admits w.admission.now) c.args.top.now.cert certs in
    let i = c.loop-ca.invariant.2 v ts heard in (
      i.0,
      i.1,
      subst (λ (l : List Ca). WalksBelowEach {E = AllocError} x asked admits certs c.args.trail.now.above.items
          c.args.depth c.args.share.steps l (Ok c.loop-ca.ended) i.0)
          (take_all c.loop-ca.ca-index c.args.cas.now c.loop-ca-test.false) i.2,
    )

pub each_below-returns-clause-limits : goal.each_below-returns-clause-limits
each_below-returns-clause-limits g t c =
    let w = c.args.self.now in
    let x = context (g.V.Verifier.verifies w.verifier.now) w.at w.strict in
    let asked = by_named_lists w.names x w.folder.now.lists in
    let certs = w.folder.now.certs in
    let admits = IsLookedAt w.names (g.A.Admission.admits w.admission.now) c.args.top.now.cert certs in
    subst (λ (l : List Ca). KeepsBelowEach x asked admits certs c.args.trail.now.above.items c.args.depth
    c.args.share l c.args.trail.now.limits c.loop-ca.trail.limits c.loop-ca.ended)
    (take_all c.loop-ca.ca-index c.args.cas.now c.loop-ca-test.false) c.loop-ca.invariant.3

-- ---- below an issuer

-- of so many, there are none
none_of : {X : Type 0} (xs : List X) (n : ℕ) (b : Bool) → n ≡ length xs → b ≡ (n == 0) → b ≡ true → xs ≡ []
none_of [] n b count is test = refl
none_of (y ∷ xs) n b count is test = let zero : n ≡ 0 = eqb-true n 0 (sym is ∙ test) in
    absurd (omega (arith, zero, count))

pub descend-look_below-requires : goal.descend-look_below-requires
descend-look_below-requires g t c =
    let certs = c.args.self.now.folder.now.certs in
    record {
      inside = subst (λ (l : List ℕ). (p : ℕ) → Contains l p → p < length certs) (sym c.deref.ensures.value)
          c.requires.inside;
      kept = c.requires.kept;
      last = subst (λ (l : List ℕ). IsLastOf c.args.top.now.cert certs l c.args.issuer.now.cert)
          (sym c.deref.ensures.value) c.requires.last;
    }

pub descend-returns-in_err-found-clause-tells : goal.descend-returns-in_err-found-clause-tells
descend-returns-in_err-found-clause-tells g t c = λ v ts heard.
    let w = c.args.self.now in
    let x = context (g.V.Verifier.verifies w.verifier.now) w.at w.strict in
    let asked = by_named_lists w.names x w.folder.now.lists in
    let certs = w.folder.now.certs in
    let looks = IsLookedAt w.names (g.A.Admission.admits w.admission.now) c.args.top.now.cert certs in
    let issuer = c.args.issuer.now in
    let above = c.args.trail.now.above.items in
    let law = c.unambiguous.ensures.certificate in
    let o = c.look_below.ensures.told v ts heard in
    let others = told_here x asked certs issuer c.deref.result.now above c.deref.ensures.value looks o.0 o.2 in (
      o.0,
      o.1,
      at_err x asked looks certs above c.args.depth c.args.share.steps law issuer o.0 others {E = AllocError}
          c.from_residual.result c.from_residual.ensures.0,
    )

pub descend-returns-in_default-clause-tells : goal.descend-returns-in_default-clause-tells
descend-returns-in_default-clause-tells g t c = λ v ts heard.
    let w = c.args.self.now in
    let x = context (g.V.Verifier.verifies w.verifier.now) w.at w.strict in
    let asked = by_named_lists w.names x w.folder.now.lists in
    let certs = w.folder.now.certs in
    let looks = IsLookedAt w.names (g.A.Admission.admits w.admission.now) c.args.top.now.cert certs in
    let issuer = c.args.issuer.now in
    let above = c.args.trail.now.above.items in
    let law = c.unambiguous.ensures.certificate in
    let o = c.look_below.ensures.told v ts heard in
    let others = told_here x asked certs issuer c.deref.result.now above c.deref.ensures.value looks o.0 o.2 in
    let kids = none_here x asked certs issuer c.deref.result.now above c.deref.ensures.value looks
    c.in_ok-found.found c.in_ok-found.ensures.found c.in_default.is in (
      o.0,
      o.1,
      at_none x asked looks certs above c.args.depth c.args.share.steps law issuer o.0 others [] kids
          {E = AllocError} refl,
    )

pub descend-returns-in_default-clause-limits : goal.descend-returns-in_default-clause-limits
descend-returns-in_default-clause-limits g t c =
    let w = c.args.self.now in
    let x = context (g.V.Verifier.verifies w.verifier.now) w.at w.strict in
    let asked = by_named_lists w.names x w.folder.now.lists in
    let certs = w.folder.now.certs in
    let looks = IsLookedAt w.names (g.A.Admission.admits w.admission.now) c.args.top.now.cert certs in
    let issuer = c.args.issuer.now in
    let above = c.args.trail.now.above.items in
    let law = c.unambiguous.ensures.certificate in
    let kids = none_here x asked certs issuer c.deref.result.now above c.deref.ensures.value looks
    c.in_ok-found.found c.in_ok-found.ensures.found c.in_default.is in
    keeps_childless x asked looks certs above c.args.depth c.args.share law issuer [] kids c.args.trail.now.limits
    c.args.trail.now.limits refl

pub descend-returns-then-depth-eq0-clause-tells : goal.descend-returns-then-depth-eq0-clause-tells
descend-returns-then-depth-eq0-clause-tells g t c = λ v ts heard.
    let w = c.args.self.now in
    let x = context (g.V.Verifier.verifies w.verifier.now) w.at w.strict in
    let asked = by_named_lists w.names x w.folder.now.lists in
    let certs = w.folder.now.certs in
    let looks = IsLookedAt w.names (g.A.Admission.admits w.admission.now) c.args.top.now.cert certs in
    let issuer = c.args.issuer.now in
    let above = c.args.trail.now.above.items in
    let law = c.unambiguous.ensures.certificate in
    let o = c.look_below.ensures.told v ts heard in
    let others = told_here x asked certs issuer c.deref.result.now above c.deref.ensures.value looks o.0 o.2 in
    let children = c.in-Some.below.children.items in
    let kids = some_here x asked certs issuer c.deref.result.now above c.deref.ensures.value looks
    c.in_ok-found.found c.in_ok-found.ensures.found c.in-Some.below c.in-Some.is in (
      o.0,
      o.1,
      at_depth x asked looks certs above c.args.depth c.args.share.steps law issuer o.0 others children kids.1
          {E = AllocError} c.if-depth-eq0.true kids.0,
    )

pub descend-returns-then-depth-eq0-clause-limits : goal.descend-returns-then-depth-eq0-clause-limits
descend-returns-then-depth-eq0-clause-limits g t c =
    let w = c.args.self.now in
    let x = context (g.V.Verifier.verifies w.verifier.now) w.at w.strict in
    let asked = by_named_lists w.names x w.folder.now.lists in
    let certs = w.folder.now.certs in
    let looks = IsLookedAt w.names (g.A.Admission.admits w.admission.now) c.args.top.now.cert certs in
    let issuer = c.args.issuer.now in
    let above = c.args.trail.now.above.items in
    let law = c.unambiguous.ensures.certificate in
    let children = c.in-Some.below.children.items in
    let kids = some_here x asked certs issuer c.deref.result.now above c.deref.ensures.value looks
    c.in_ok-found.found c.in_ok-found.ensures.found c.in-Some.below c.in-Some.is in
    keeps_deep x asked looks certs above c.args.depth c.args.share law issuer children kids.1
    c.args.trail.now.limits c.reach.new.self.limits c.if-depth-eq0.true kids.0
    c.reach.ensures.counted

pub descend-returns-then-len-share-clause-tells : goal.descend-returns-then-len-share-clause-tells
descend-returns-then-len-share-clause-tells g t c = λ v ts heard.
    let w = c.args.self.now in
    let x = context (g.V.Verifier.verifies w.verifier.now) w.at w.strict in
    let asked = by_named_lists w.names x w.folder.now.lists in
    let certs = w.folder.now.certs in
    let looks = IsLookedAt w.names (g.A.Admission.admits w.admission.now) c.args.top.now.cert certs in
    let issuer = c.args.issuer.now in
    let above = c.args.trail.now.above.items in
    let law = c.unambiguous.ensures.certificate in
    let o = c.look_below.ensures.told v ts heard in
    let others = told_here x asked certs issuer c.deref.result.now above c.deref.ensures.value looks o.0 o.2 in
    let children = c.in-Some.below.children.items in
    let kids = some_here x asked certs issuer c.deref.result.now above c.deref.ensures.value looks
    c.in_ok-found.found c.in_ok-found.ensures.found c.in-Some.below c.in-Some.is in
    let short : c.args.share.steps < length children =
    omega (arith, c.if-len-share.true, c.len.ensures, c.in-Some.below.children.ok.0) in (
      o.0,
      o.1,
      at_short x asked looks certs above c.args.depth c.args.share.steps law issuer o.0 others children kids.1
          {E = AllocError} short,
    )

pub descend-returns-then-len-share-clause-limits : goal.descend-returns-then-len-share-clause-limits
descend-returns-then-len-share-clause-limits g t c =
    let w = c.args.self.now in
    let x = context (g.V.Verifier.verifies w.verifier.now) w.at w.strict in
    let asked = by_named_lists w.names x w.folder.now.lists in
    let certs = w.folder.now.certs in
    let looks = IsLookedAt w.names (g.A.Admission.admits w.admission.now) c.args.top.now.cert certs in
    let issuer = c.args.issuer.now in
    let above = c.args.trail.now.above.items in
    let law = c.unambiguous.ensures.certificate in
    let children = c.in-Some.below.children.items in
    let kids = some_here x asked certs issuer c.deref.result.now above c.deref.ensures.value looks
    c.in_ok-found.found c.in_ok-found.ensures.found c.in-Some.below c.in-Some.is in
    let short : c.args.share.steps < length children =
    omega (arith, c.if-len-share.true, c.len.ensures, c.in-Some.below.children.ok.0) in
    let low : 0 < c.args.depth = omega (arith, c.if-depth-eq0.false) in
    let one : c.len-then-len-share.result ≡ length children =
    omega (arith, c.len-then-len-share.ensures, c.in-Some.below.children.ok.0) in
    keeps_short x asked looks certs above c.args.depth c.args.share law issuer children kids.1
    c.args.trail.now.limits c.reach-then-len-share.new.self.limits low short
    c.needed.result
    (λ base factor cost. subst (λ (n : ℕ). IsToldNumber c.needed.result (base + factor * n)) one
    (c.needed.ensures base factor cost)) c.reach-then-len-share.ensures.counted

pub descend-judge_children-requires : goal.descend-judge_children-requires
descend-judge_children-requires g t c =
    let w = c.args.self.now in
    let x = context (g.V.Verifier.verifies w.verifier.now) w.at w.strict in
    let asked = by_named_lists w.names x w.folder.now.lists in
    let certs = w.folder.now.certs in
    let looks = IsLookedAt w.names (g.A.Admission.admits w.admission.now) c.args.top.now.cert certs in
    let issuer = c.args.issuer.now in
    let above = c.args.trail.now.above.items in
    let law = c.unambiguous.ensures.certificate in
    let children = c.in-Some.below.children.items in
    let kids = some_here x asked certs issuer c.deref.result.now above c.deref.ensures.value looks
    c.in_ok-found.found c.in_ok-found.ensures.found c.in-Some.below c.in-Some.is in
    let at = subst (λ (b : Option Below). IfSome b (λ below. (below.at < length c.look_below.new.issuers.kept.items) ×
    ((d : Issuer) → IsKeptOf w.names x w.folder.now issuer.cert
    (slice_index_or c.look_below.new.issuers.kept.items below.at d)))) c.in-Some.is c.in_ok-found.ensures.at in
    let kept = kept_at (λ (k : Issuer). IsKeptOf w.names x w.folder.now issuer.cert k)
    c.look_below.new.issuers.kept.items c.in-Some.below.at c.index.result.now c.index.ensures at.1 in
    record {
      inside = subst (λ (l : List ℕ). (p : ℕ) → Contains l p → p < length certs) (sym c.deref-3.ensures.value)
          (λ p at. let child = (kids.1.only p at).1 in low_of certs child.cert p child.stands);
      once = subst (λ (l : List ℕ). IsOnce l) (sym c.deref-3.ensures.value) kids.1.once;
      children = subst (λ (l : List ℕ). (p : ℕ) → Contains l p → IsChildOf x.verifies issuer.cert certs p)
          (sym c.deref-3.ensures.value) (λ p at. (kids.1.only p at).1);
      kept = kept.lists;
    }

pub descend-returns-in_err-cas-clause-tells : goal.descend-returns-in_err-cas-clause-tells
descend-returns-in_err-cas-clause-tells g t c = λ v ts heard.
    let w = c.args.self.now in
    let x = context (g.V.Verifier.verifies w.verifier.now) w.at w.strict in
    let asked = by_named_lists w.names x w.folder.now.lists in
    let certs = w.folder.now.certs in
    let looks = IsLookedAt w.names (g.A.Admission.admits w.admission.now) c.args.top.now.cert certs in
    let issuer = c.args.issuer.now in
    let above = c.args.trail.now.above.items in
    let law = c.unambiguous.ensures.certificate in
    let o = c.look_below.ensures.told v ts heard in
    let others = told_here x asked certs issuer c.deref.result.now above c.deref.ensures.value looks o.0 o.2 in
    let children = c.in-Some.below.children.items in
    let kids = some_here x asked certs issuer c.deref.result.now above c.deref.ensures.value looks
    c.in_ok-found.found c.in_ok-found.ensures.found c.in-Some.below c.in-Some.is in
    let us = c.judge_children.ensures v (ts ++ o.0) o.1 in
    let told = children_here x asked certs issuer c.deref-2.result.now above c.deref-2.ensures.value
    c.deref-3.result.now children c.deref-3.ensures.value us.0 us.2 us.3 in
    let enough : length children ≤ c.args.share.steps =
    omega (arith, c.if-len-share.false, c.len.ensures, c.in-Some.below.children.ok.0) in (
      o.0 ++ us.0,
      subst (λ (l : List Told). g.W.Visitor.became v l c.judge_children.new.visitor) (append_assoc ts o.0 us.0) us.1,
      judged_err x asked looks certs above c.args.depth c.args.share.steps law issuer o.0 others children kids.1
          enough us.0 told.0 told.1 {E = AllocError}
          c.from_residual-in_err-cas.result c.from_residual-in_err-cas.ensures.0,
    )

pub descend-returns-then-is_empty-clause-tells : goal.descend-returns-then-is_empty-clause-tells
descend-returns-then-is_empty-clause-tells g t c = λ v ts heard.
    let w = c.args.self.now in
    let x = context (g.V.Verifier.verifies w.verifier.now) w.at w.strict in
    let asked = by_named_lists w.names x w.folder.now.lists in
    let certs = w.folder.now.certs in
    let looks = IsLookedAt w.names (g.A.Admission.admits w.admission.now) c.args.top.now.cert certs in
    let issuer = c.args.issuer.now in
    let above = c.args.trail.now.above.items in
    let law = c.unambiguous.ensures.certificate in
    let o = c.look_below.ensures.told v ts heard in
    let others = told_here x asked certs issuer c.deref.result.now above c.deref.ensures.value looks o.0 o.2 in
    let children = c.in-Some.below.children.items in
    let kids = some_here x asked certs issuer c.deref.result.now above c.deref.ensures.value looks
    c.in_ok-found.found c.in_ok-found.ensures.found c.in-Some.below c.in-Some.is in
    let us = c.judge_children.ensures v (ts ++ o.0) o.1 in
    let told = children_here x asked certs issuer c.deref-2.result.now above c.deref-2.ensures.value
    c.deref-3.result.now children c.deref-3.ensures.value us.0 us.2 us.3 in
    let enough : length children ≤ c.args.share.steps =
    omega (arith, c.if-len-share.false, c.len.ensures, c.in-Some.below.children.ok.0) in
    let cas = c.in_ok-cas.cas.items in
    let low : 0 < c.args.depth = omega (arith, c.if-depth-eq0.false) in
    let j = judged_here x asked certs issuer c.deref-2.result.now above c.deref-2.ensures.value
    c.deref-3.result.now children c.deref-3.ensures.value us.0 c.judge_children.result c.in_ok-cas.cas
    c.in_ok-cas.was us.4 in (
      o.0 ++ us.0,
      subst (λ (l : List Told). g.W.Visitor.became v l c.judge_children.new.visitor) (append_assoc ts o.0 us.0) us.1,
      at_last x asked looks certs above c.args.depth c.args.share.steps law issuer o.0 others children kids.1 enough
          us.0 told.0 told.1 cas j low {E = AllocError}
          (none_of cas c.in_ok-cas.cas.len c.is_empty.result (omega (arith, c.in_ok-cas.cas.ok.0)) c.is_empty.ensures
          c.if-is_empty.true),
    )

pub descend-returns-then-is_empty-clause-limits : goal.descend-returns-then-is_empty-clause-limits
descend-returns-then-is_empty-clause-limits g t c =
    let w = c.args.self.now in
    let x = context (g.V.Verifier.verifies w.verifier.now) w.at w.strict in
    let asked = by_named_lists w.names x w.folder.now.lists in
    let certs = w.folder.now.certs in
    let looks = IsLookedAt w.names (g.A.Admission.admits w.admission.now) c.args.top.now.cert certs in
    let issuer = c.args.issuer.now in
    let above = c.args.trail.now.above.items in
    let law = c.unambiguous.ensures.certificate in
    let children = c.in-Some.below.children.items in
    let kids = some_here x asked certs issuer c.deref.result.now above c.deref.ensures.value looks
    c.in_ok-found.found c.in_ok-found.ensures.found c.in-Some.below c.in-Some.is in
    let o = c.look_below.ensures.told c.args.visitor.now [] (g.met.W.Visitor.begins c.args.visitor.now) in
    let us = c.judge_children.ensures c.args.visitor.now ([] ++ o.0) o.1 in
    let enough : length children ≤ c.args.share.steps =
    omega (arith, c.if-len-share.false, c.len.ensures, c.in-Some.below.children.ok.0) in
    let cas = c.in_ok-cas.cas.items in
    let low : 0 < c.args.depth = omega (arith, c.if-depth-eq0.false) in
    let j = judged_here x asked certs issuer c.deref-2.result.now above c.deref-2.ensures.value
    c.deref-3.result.now children c.deref-3.ensures.value us.0 c.judge_children.result c.in_ok-cas.cas
    c.in_ok-cas.was us.4 in
    keeps_last x asked looks certs above c.args.depth c.args.share law issuer children kids.1
    c.args.trail.now.limits c.args.trail.now.limits low enough cas us.0 j
    (none_of cas c.in_ok-cas.cas.len c.is_empty.result (omega (arith, c.in_ok-cas.cas.ok.0)) c.is_empty.ensures
    c.if-is_empty.true)

pub descend-each_below-requires : goal.descend-each_below-requires
descend-each_below-requires g t c =
    let v = c.look_below.new.visitor in
    let w = c.args.self.now in
    let x = context (g.V.Verifier.verifies w.verifier.now) w.at w.strict in
    let asked = by_named_lists w.names x w.folder.now.lists in
    let certs = w.folder.now.certs in
    let issuer = c.args.issuer.now in
    let us = c.judge_children.ensures v [] (g.met.W.Visitor.begins v) in
    let cas = c.in_ok-cas.cas.items in
    let j = if_ok (λ (k : Vec Ca). AreJudged x asked issuer certs c.deref-2.result.now c.deref-3.result.now k.items
    us.0) c.judge_children.result c.in_ok-cas.cas c.in_ok-cas.was us.4 in
    let stand : (ca : Ca) → Contains cas ca → StandsAt certs ca.place ca.holder.cert = λ ca at. let o =
    (j.only ca at).1 in ca_stands x asked issuer certs ca.place o.0 ca.holder o.1 in
    let inside = c.requires.inside in
    let stands = subst (λ (l : List Ca). (ca : Ca) → Contains l ca → StandsAt certs ca.place ca.holder.cert)
    (sym c.deref-4.ensures.value) stand in
    let kept = c.in_ok-found.ensures.kept in
    search (rules, inside, stands, kept)

pub descend-returns-clause-tells : goal.descend-returns-clause-tells
descend-returns-clause-tells g t c = λ v ts heard.
    let w = c.args.self.now in
    let x = context (g.V.Verifier.verifies w.verifier.now) w.at w.strict in
    let asked = by_named_lists w.names x w.folder.now.lists in
    let certs = w.folder.now.certs in
    let looks = IsLookedAt w.names (g.A.Admission.admits w.admission.now) c.args.top.now.cert certs in
    let issuer = c.args.issuer.now in
    let above = c.args.trail.now.above.items in
    let law = c.unambiguous.ensures.certificate in
    let o = c.look_below.ensures.told v ts heard in
    let others = told_here x asked certs issuer c.deref.result.now above c.deref.ensures.value looks o.0 o.2 in
    let children = c.in-Some.below.children.items in
    let kids = some_here x asked certs issuer c.deref.result.now above c.deref.ensures.value looks
    c.in_ok-found.found c.in_ok-found.ensures.found c.in-Some.below c.in-Some.is in
    let us = c.judge_children.ensures v (ts ++ o.0) o.1 in
    let told = children_here x asked certs issuer c.deref-2.result.now above c.deref-2.ensures.value
    c.deref-3.result.now children c.deref-3.ensures.value us.0 us.2 us.3 in
    let enough : length children ≤ c.args.share.steps =
    omega (arith, c.if-len-share.false, c.len.ensures, c.in-Some.below.children.ok.0) in
    let cas = c.in_ok-cas.cas.items in
    let low : 0 < c.args.depth = omega (arith, c.if-depth-eq0.false) in
    let j = judged_here x asked certs issuer c.deref-2.result.now above c.deref-2.ensures.value
    c.deref-3.result.now children c.deref-3.ensures.value us.0 c.judge_children.result c.in_ok-cas.cas
    c.in_ok-cas.was us.4 in
    let next = c.below-next.result.steps in
    let one : c.len-2.result ≡ length children = omega (arith, c.len-2.ensures, c.in-Some.below.children.ok.0) in
    let other : c.len-3.result ≡ length cas = omega (arith, c.len-3.ensures, c.in_ok-cas.cas.ok.0) in
    let b = c.each_below.ensures.tells v ((ts ++ o.0) ++ us.0) us.1 in
    let walks = subst (λ (l : List Ca). WalksBelowEach {E = AllocError} x asked looks certs above (c.args.depth - 1)
    next l c.each_below.result b.0) c.deref-4.ensures.value b.2 in (
      o.0 ++ (us.0 ++ b.0),
      subst (λ (l : List Told). g.W.Visitor.became v l c.each_below.new.visitor)
          (ap (λ (l : List Told). l ++ b.0) (append_assoc ts o.0 us.0) ∙ append_assoc ts (o.0 ++ us.0) b.0 ∙
          ap (λ (l : List Told). ts ++ l) (append_assoc o.0 us.0 b.0)) b.1,
      at_each x asked looks certs above c.args.depth c.args.share.steps law issuer o.0 others children kids.1 enough
          us.0 told.0 told.1 cas j low {E = AllocError} next
          (λ some. c.below-next.ensures.steps ∙ ap (λ (n : ℕ). (c.args.share.steps - n) / c.len-3.result) one ∙
          ap (λ (n : ℕ). (c.args.share.steps - length children) / n) other) c.each_below.result b.0 walks,
    )

pub descend-returns-clause-limits : goal.descend-returns-clause-limits
descend-returns-clause-limits g t c =
    let w = c.args.self.now in
    let x = context (g.V.Verifier.verifies w.verifier.now) w.at w.strict in
    let asked = by_named_lists w.names x w.folder.now.lists in
    let certs = w.folder.now.certs in
    let looks = IsLookedAt w.names (g.A.Admission.admits w.admission.now) c.args.top.now.cert certs in
    let issuer = c.args.issuer.now in
    let above = c.args.trail.now.above.items in
    let law = c.unambiguous.ensures.certificate in
    let children = c.in-Some.below.children.items in
    let kids = some_here x asked certs issuer c.deref.result.now above c.deref.ensures.value looks
    c.in_ok-found.found c.in_ok-found.ensures.found c.in-Some.below c.in-Some.is in
    let o = c.look_below.ensures.told c.args.visitor.now [] (g.met.W.Visitor.begins c.args.visitor.now) in
    let us = c.judge_children.ensures c.args.visitor.now ([] ++ o.0) o.1 in
    let enough : length children ≤ c.args.share.steps =
    omega (arith, c.if-len-share.false, c.len.ensures, c.in-Some.below.children.ok.0) in
    let cas = c.in_ok-cas.cas.items in
    let low : 0 < c.args.depth = omega (arith, c.if-depth-eq0.false) in
    let j = judged_here x asked certs issuer c.deref-2.result.now above c.deref-2.ensures.value
    c.deref-3.result.now children c.deref-3.ensures.value us.0 c.judge_children.result c.in_ok-cas.cas
    c.in_ok-cas.was us.4 in
    let one : c.len-2.result ≡ length children = omega (arith, c.len-2.ensures, c.in-Some.below.children.ok.0) in
    let other : c.len-3.result ≡ length cas = omega (arith, c.len-3.ensures, c.in_ok-cas.cas.ok.0) in
    let old = c.args.trail.now.limits in
    let new = c.each_below.new.trail.limits in
    ok_if (KeepsBelow x asked looks issuer certs above c.args.depth c.args.share old new) c.each_below.result
    (λ ended is.
    let walks = if_ok (KeepsBelowEach x asked looks certs above (c.args.depth - 1) c.below-next.result
    c.deref-4.result.now old new) c.each_below.result ended is c.each_below.ensures.limits in
    keeps_each x asked looks certs above c.args.depth c.args.share law issuer children kids.1 old new low enough cas
    us.0 j c.below-next.result
    (λ some. c.below-next.ensures.steps ∙ ap (λ (n : ℕ). (c.args.share.steps - n) / c.len-3.result) one ∙
    ap (λ (n : ℕ). (c.args.share.steps - length children) / n) other)
    (λ base factor cost. subst (λ (n : ℕ). CostIs c.below-next.result.cost (base + factor * n)
    (factor * length cas)) one
    (subst (λ (n : ℕ). CostIs c.below-next.result.cost (base + factor * c.len-2.result) (factor * n)) other
    (c.below-next.ensures.cost base factor cost)))
    ended (subst (λ (l : List Ca). KeepsBelowEach x asked looks certs above (c.args.depth - 1) c.below-next.result l
    old new ended) c.deref-4.ensures.value walks))
