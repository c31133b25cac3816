use Rattle.std.specs.Prelude.{Some}
use Rattle.std.proofs.Common.{rules, ◌≡◌, ◌+◌, List, ◌++◌, Err, IfOk, IfErr, length, map, sym, ap, ◌∙◌, subst, arith}
use Rattle.std.proofs.lemmas.List.{append-nil, length-map}
use Rattle.rpki_cert.specs.declared.inspect.Kind.TheVariants.{Authority, EndEntity, Detached, Router}
use Rattle.rpki_path.specs.declared.given.Last.{Last}
use Rattle.rpki_path.specs.declared.given.Last.TheVariants as last
use Rattle.rpki_path.specs.NameChains.Steps.{BeginChainedTo, IsStopped}
use Rattle.rpki_path.specs.Paths.{Candidate, candidate}
use Rattle.rpki_path.proofs.ChainedNames.{stopped_of_more, end_named, end_stopped, last_strings, all_strings}
use Rattle.rpki_path.proofs.names.last_subject.Goals as goal

pub returns-in_err-above-clause-stopped : goal.returns-in_err-above-clause-stopped
returns-in_err-above-clause-stopped c =
    let anchor = c.args.anchor.now in
    let s = c.in_err-above.field-0.0 in
    let same : c.from_residual.result ≡ Err s = search rules in
    let stopped = stopped_of_more anchor (map (candidate Authority) c.args.cas.now) (last_strings c.args.last) s
    c.in_err-above.ensures.stopped in
    rw same (subst (λ (l : List Candidate). IsStopped anchor l s)
    (sym (all_strings anchor c.args.cas.now c.args.last)) stopped)

pub returns-in-None-clause-ok : goal.returns-in-None-clause-ok
returns-in-None-clause-ok c =
    let anchor = c.args.anchor.now in
    let cas = map (candidate Authority) c.args.cas.now in
    let strings = all_strings anchor c.args.cas.now c.args.last ∙ ap (λ (l : _). cas ++ last_strings l)
    c.in-None.is ∙ append-nil cas in
    subst (λ (l : List Candidate). BeginChainedTo anchor l c.in_ok-above.above) (sym strings) c.in_ok-above.ensures.ok

pub returns-in-Some-Ee-clause-ok : goal.returns-in-Some-Ee-clause-ok
returns-in-Some-Ee-clause-ok c =
    let anchor = c.args.anchor.now in
    let cas = map (candidate Authority) c.args.cas.now in
    let octets = c.in-Some-Ee.end in
    let end : c.args.last ≡ Some (last.Ee octets) = c.in-Some-Ee.is ∙
    ap (λ (l : Last). Some l) (rw c.in-Some-Ee.is at c.in-Some-Ee.field-0-is) in
    let strings = all_strings anchor c.args.cas.now c.args.last ∙ ap (λ (l : _). cas ++ last_strings l) end in
    let named = end_named anchor cas c.in_ok-above.above c.in_ok-above.ensures.ok EndEntity octets.now c.next.result
    c.next.ensures.ok in
    subst (λ (l : List Candidate). IfOk c.next.result (BeginChainedTo anchor l)) (sym strings) named

pub returns-in-Some-Ee-clause-stopped : goal.returns-in-Some-Ee-clause-stopped
returns-in-Some-Ee-clause-stopped c =
    let anchor = c.args.anchor.now in
    let cas = map (candidate Authority) c.args.cas.now in
    let octets = c.in-Some-Ee.end in
    let end : c.args.last ≡ Some (last.Ee octets) = c.in-Some-Ee.is ∙
    ap (λ (l : Last). Some l) (rw c.in-Some-Ee.is at c.in-Some-Ee.field-0-is) in
    let strings = all_strings anchor c.args.cas.now c.args.last ∙ ap (λ (l : _). cas ++ last_strings l) end in
    let index : length c.args.cas.now + 1 ≡ length cas + 1 =
    omega (arith, length-map c.args.cas.now (candidate Authority)) in
    let stopped = end_stopped anchor cas c.in_ok-above.above c.in_ok-above.ensures.ok EndEntity octets.now
    (length c.args.cas.now + 1) index c.next.result c.next.ensures.place c.next.ensures.why in
    subst (λ (l : List Candidate). IfErr c.next.result (IsStopped anchor l)) (sym strings) stopped

pub returns-in-Some-DetachedEe-clause-ok : goal.returns-in-Some-DetachedEe-clause-ok
returns-in-Some-DetachedEe-clause-ok c =
    let anchor = c.args.anchor.now in
    let cas = map (candidate Authority) c.args.cas.now in
    let octets = c.in-Some-DetachedEe.end in
    let end : c.args.last ≡ Some (last.DetachedEe octets) = c.in-Some-DetachedEe.is ∙
    ap (λ (l : Last). Some l) (rw c.in-Some-DetachedEe.is at c.in-Some-DetachedEe.field-0-is) in
    let strings = all_strings anchor c.args.cas.now c.args.last ∙ ap (λ (l : _). cas ++ last_strings l) end in
    let named = end_named anchor cas c.in_ok-above.above c.in_ok-above.ensures.ok Detached octets.now
    c.next-in-Some-DetachedEe.result c.next-in-Some-DetachedEe.ensures.ok in
    subst (λ (l : List Candidate). IfOk c.next-in-Some-DetachedEe.result (BeginChainedTo anchor l)) (sym strings) named

pub returns-in-Some-DetachedEe-clause-stopped : goal.returns-in-Some-DetachedEe-clause-stopped
returns-in-Some-DetachedEe-clause-stopped c =
    let anchor = c.args.anchor.now in
    let cas = map (candidate Authority) c.args.cas.now in
    let octets = c.in-Some-DetachedEe.end in
    let end : c.args.last ≡ Some (last.DetachedEe octets) = c.in-Some-DetachedEe.is ∙
    ap (λ (l : Last). Some l) (rw c.in-Some-DetachedEe.is at c.in-Some-DetachedEe.field-0-is) in
    let strings = all_strings anchor c.args.cas.now c.args.last ∙ ap (λ (l : _). cas ++ last_strings l) end in
    let index : length c.args.cas.now + 1 ≡ length cas + 1 =
    omega (arith, length-map c.args.cas.now (candidate Authority)) in
    let stopped = end_stopped anchor cas c.in_ok-above.above c.in_ok-above.ensures.ok Detached octets.now
    (length c.args.cas.now + 1) index c.next-in-Some-DetachedEe.result c.next-in-Some-DetachedEe.ensures.place
    c.next-in-Some-DetachedEe.ensures.why in
    subst (λ (l : List Candidate). IfErr c.next-in-Some-DetachedEe.result (IsStopped anchor l)) (sym strings) stopped

pub returns-in-Some-Router-clause-ok : goal.returns-in-Some-Router-clause-ok
returns-in-Some-Router-clause-ok c =
    let anchor = c.args.anchor.now in
    let cas = map (candidate Authority) c.args.cas.now in
    let octets = c.in-Some-Router.end in
    let end : c.args.last ≡ Some (last.Router octets) = c.in-Some-Router.is ∙
    ap (λ (l : Last). Some l) (rw c.in-Some-Router.is at c.in-Some-Router.field-0-is) in
    let strings = all_strings anchor c.args.cas.now c.args.last ∙ ap (λ (l : _). cas ++ last_strings l) end in
    let named = end_named anchor cas c.in_ok-above.above c.in_ok-above.ensures.ok Router octets.now
    c.next-in-Some-Router.result c.next-in-Some-Router.ensures.ok in
    subst (λ (l : List Candidate). IfOk c.next-in-Some-Router.result (BeginChainedTo anchor l)) (sym strings) named

pub returns-in-Some-Router-clause-stopped : goal.returns-in-Some-Router-clause-stopped
returns-in-Some-Router-clause-stopped c =
    let anchor = c.args.anchor.now in
    let cas = map (candidate Authority) c.args.cas.now in
    let octets = c.in-Some-Router.end in
    let end : c.args.last ≡ Some (last.Router octets) = c.in-Some-Router.is ∙
    ap (λ (l : Last). Some l) (rw c.in-Some-Router.is at c.in-Some-Router.field-0-is) in
    let strings = all_strings anchor c.args.cas.now c.args.last ∙ ap (λ (l : _). cas ++ last_strings l) end in
    let index : length c.args.cas.now + 1 ≡ length cas + 1 =
    omega (arith, length-map c.args.cas.now (candidate Authority)) in
    let stopped = end_stopped anchor cas c.in_ok-above.above c.in_ok-above.ensures.ok Router octets.now
    (length c.args.cas.now + 1) index c.next-in-Some-Router.result c.next-in-Some-Router.ensures.place
    c.next-in-Some-Router.ensures.why in
    subst (λ (l : List Candidate). IfErr c.next-in-Some-Router.result (IsStopped anchor l)) (sym strings) stopped
