use Rattle.std.specs.Prelude.{Contains, MatchOption}
use Rattle.std.proofs.Common.{◌≡◌, ◌<◌, ℕ, List, [], length, get_or, sym, subst, ◌∙◌, arith}
use Rattle.std.proofs.lemmas.List.{get_or_default}
use Rattle.rpki_der.specs.Place.{Rejects}
use Rattle.rpki_c.specs.Verdicts.{AreNoList, IsForeign, IsListGiven}
use Rattle.rpki_c.proofs.CallersLists.{one_more}
use Rattle.rpki_c.proofs.lists.lists_of.Goals as goal

pub returns-in-Err-clause-unread : goal.returns-in-Err-clause-unread
returns-in-Err-clause-unread c =
    let l = c.loop-octets in
    let strings = c.args.strings.now in
    let IsKey = Contains c.args.keys.now in
    let item : c.octets-item.result ≡ get_or strings l.octets-index [] = c.octets-item.is ∙
    get_or_default strings l.octets-index c.octets-item.result [] c.loop-octets-test.true in
    let there = subst (λ (octets : List ℕ). Rejects c.in-Err.error
    (AreNoList octets × (IsForeign IsKey octets → ⊥))) item c.in-Err.ensures.unread in (
      subst (λ (i : ℕ). i < length strings) (sym l.invariant.at) c.loop-octets-test.true,
      subst (λ (i : ℕ). Rejects c.in-Err.error
          (AreNoList (get_or strings i []) × (IsForeign IsKey (get_or strings i []) → ⊥))) (sym l.invariant.at)
          there,
    )

pub loop-octets-preserved : goal.loop-octets-preserved
loop-octets-preserved c =
    let l = c.loop-octets in
    let strings = c.args.strings.now in
    let IsKey = Contains c.args.keys.now in
    let item : c.octets-item.result ≡ get_or strings l.octets-index [] = c.octets-item.is ∙
    get_or_default strings l.octets-index c.octets-item.result [] c.loop-octets-test.true in
    let own = subst (λ (octets : List ℕ). MatchOption c.in-Ok.list (IsForeign IsKey octets) (IsListGiven octets)) item
    c.in-Ok.ensures.list in
    record {
      naming = one_more (IsForeign IsKey) strings l.octets-index c.loop-octets-test.true l.lists.items
          l.invariant.naming c.in-Ok.list c.keep.new.lists.items own c.in_ok-keep-in-Ok.ensures;
      at = omega (arith, l.invariant.at);
    }
