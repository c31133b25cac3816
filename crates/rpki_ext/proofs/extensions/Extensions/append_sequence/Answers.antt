use Rattle.std.proofs.Common.{◌≡◌, ◌≤◌, ◌++◌, ℕ, List, length, subst, sym, ◌∙◌, add-one}
use Rattle.rpki_der.proofs.Appending.{on_err}
use Rattle.rpki_der.specs.Extensions.{OptionalExtension, part_of, text}
use Rattle.rpki_der.proofs.TooLong.{passed_long}
use Rattle.rpki_ext.specs.CertificateExtensions.{extensions}
use Rattle.rpki_ext.specs.declared.extensions.Named.TheVariants.{BasicConstraints}
use Rattle.rpki_ext.proofs.WrittenDescriptions.{front_of}
use Rattle.rpki_ext.proofs.WritingSteps.{all_written, elements_longer, grown, part_at, written_before}
use Rattle.rpki_ext.proofs.extensions.Extensions.append_sequence.Goals as goal

pub returns-in_err-append-clause-too_long : goal.returns-in_err-append-clause-too_long
returns-in_err-append-clause-too_long c =
    let x = c.args.self.now in
    let k = c.loop-kind.kind-index in
    let at = part_at x c.in_order-kinds.result k BasicConstraints c.in_order-kinds.ensures c.loop-kind-test.true in
    passed_long c.from_residual.result _ _ _ c.from_residual.ensures.1 c.in_err-append.ensures.too_long
    (subst (λ (p : OptionalExtension). length (part_of p).inside ≤ length (extensions x)) (sym at)
    (elements_longer x k))

pub loop-kind-preserved : goal.loop-kind-preserved
loop-kind-preserved c =
    let x = c.args.self.now in
    let k = c.loop-kind.kind-index in
    let old = c.args.out.now.items in
    let before = c.loop-kind.out.items in
    let new = c.append.new.out.items in
    let at = part_at x c.in_order-kinds.result k BasicConstraints c.in_order-kinds.ensures c.loop-kind-test.true in
    subst (λ (n : ℕ). new ≡ old ++ written_before x n) (sym (add-one k))
    (grown x k old before new c.loop-kind.invariant
    (subst (λ (p : OptionalExtension). new ≡ before ++ text p) at c.in_ok-append.ensures.ok))

pub returns-clause-ok : goal.returns-clause-ok
returns-clause-ok c = subst (λ (written : List ℕ). c.loop-kind.out.items ≡ c.args.out.now.items ++ written)
    (all_written c.args.self.now c.loop-kind.kind-index c.loop-kind-test.false) c.loop-kind.invariant

pub returns-in_err-append-clause-err : goal.returns-in_err-append-clause-err
returns-in_err-append-clause-err c =
    on_err c.from_residual.result
    (front_of c.args.out.now.items c.append.new.out.items _ (c.in_err-append.ensures.err ∙ c.loop-kind.invariant))

pub returns-clause-too_long : goal.returns-clause-too_long
returns-clause-too_long c = λ long. absurd cc
