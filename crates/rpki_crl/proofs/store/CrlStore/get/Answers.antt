use Rattle.std.proofs.Common.{◌≡◌, ◌+◌, ◌<◌, List, refl, arith, ap, ◌∙◌, length, get_or, subst}
use Rattle.std.proofs.lemmas.Bool.{false≢true}
use Rattle.rpki_crl.specs.Stores.{IsUnder, Stored, StoreFields}
use Rattle.rpki_crl.proofs.Loops.{all_more, first_at}
use Rattle.rpki_crl.proofs.store.CrlStore.get.Goals as goal

pub returns-then-eq : goal.returns-then-eq
returns-then-eq c =
    let same : c.deref-under-items.result.now ≡ c.args.self.now.pairs = c.deref-under-items.ensures.value ∙
    ap (λ (s : StoreFields). s.pairs) c.self.view_is in
    let pair : Stored = c.loop-under-item.result in
    let inside = subst (λ (ps : List Stored). c.loop-under.under-index < length ps) same c.loop-under-test.true in
    let is = subst (λ (ps : List Stored). pair ≡ get_or ps c.loop-under.under-index pair) same c.loop-under-item.is in (
      pair,
      first_at (IsUnder c.args.uri.now) c.args.self.now.pairs c.loop-under.under-index pair inside is
          (c.if-eq.ensures.equal.0 refl) c.loop-under.invariant,
      refl,
    )

pub loop-under-preserved : goal.loop-under-preserved
loop-under-preserved c =
    let same : c.deref-under-items.result.now ≡ c.args.self.now.pairs = c.deref-under-items.ensures.value ∙
    ap (λ (s : StoreFields). s.pairs) c.self.view_is in
    let pair : Stored = c.loop-under-item.result in
    let inside = subst (λ (ps : List Stored). c.loop-under.under-index < length ps) same c.loop-under-test.true in
    let is = subst (λ (ps : List Stored). pair ≡ get_or ps c.loop-under.under-index pair) same c.loop-under-item.is in
    all_more (λ pair. IsUnder c.args.uri.now pair → ⊥) c.args.self.now.pairs c.loop-under.under-index
    (c.loop-under.under-index + 1) pair (omega arith) inside is
    (λ equal. false≢true (c.if-eq.ensures.equal.1 equal)) c.loop-under.invariant
