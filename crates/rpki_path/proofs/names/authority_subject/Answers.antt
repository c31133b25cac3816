use Rattle.std.proofs.Common.{rules, ◌≡◌, Err, List, ℕ, map, subst}
use Rattle.std.proofs.lemmas.List.{take_all}
use Rattle.rpki_cert.specs.declared.inspect.Kind.TheVariants.{Authority}
use Rattle.rpki_path.specs.NameChains.Steps.{BeginChainedTo}
use Rattle.rpki_path.specs.Paths.{candidate}
use Rattle.rpki_path.proofs.ChainedNames.{anchor_chained, next_named, next_stopped}
use Rattle.rpki_path.proofs.names.authority_subject.Goals as goal

pub loop-i-init : goal.loop-i-init
loop-i-init c = anchor_chained c.args.anchor.now c.in_ok-above.above
    (rw c.in_ok-above.ensures.ok at c.anchor_subject.ensures.ok)

pub returns-in_err-above-2-clause-stopped : goal.returns-in_err-above-2-clause-stopped
returns-in_err-above-2-clause-stopped c =
    let s = c.in_err-above-2.field-0.0 in
    let same : c.from_residual-in_err-above-2.result ≡ Err s = search rules in
    rw same (next_stopped c.args.anchor.now c.args.cas.now c.loop-i.i c.loop-i-test.true c.index-cas-i.result
    c.index-cas-i.is c.loop-i.above c.loop-i.invariant s c.in_err-above-2.ensures.place
    c.in_err-above-2.ensures.why)

pub loop-i-preserved : goal.loop-i-preserved
loop-i-preserved c = next_named c.args.anchor.now c.args.cas.now c.loop-i.i c.loop-i-test.true c.index-cas-i.result
    c.index-cas-i.is c.loop-i.above c.loop-i.invariant c.in_ok-above-2.above c.in_ok-above-2.ensures.ok

pub returns-clause-ok : goal.returns-clause-ok
returns-clause-ok c =
    subst (λ (l : List (List ℕ)). BeginChainedTo c.args.anchor.now (map (candidate Authority) l) c.loop-i.above)
    (take_all c.loop-i.i c.args.cas.now c.loop-i-test.false) c.loop-i.invariant
