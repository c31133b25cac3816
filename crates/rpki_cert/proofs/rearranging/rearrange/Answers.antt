use Rattle.std.proofs.Common.{rules, ◌≡◌, Err, ap, length}
use Rattle.rpki_der.specs.declared.error.EncodeError.{EncodeError}
use Rattle.rpki_cert.specs.RearrangeErrors.{of_writing}
use Rattle.rpki_cert.specs.Rearranging.{AreUnknown, IsPlan}
use Rattle.rpki_cert.specs.declared.rearrange_error.RearrangeError.TheVariants.{NotAnOrder, KnownExtra}
use Rattle.rpki_cert.proofs.Rejections.{no_reason, one_reason}
use Rattle.rpki_cert.proofs.SequencesBuilt.{is_rearrangement, rearranged, rejected_by_writing}
use Rattle.rpki_cert.proofs.rearranging.rearrange.Goals as goal

pub returns-in_err-frame-clause-rejected : goal.returns-in_err-frame-clause-rejected
returns-in_err-frame-clause-rejected c =
    let same : c.from_residual.result ≡ Err c.in_err-frame.field-0.0 = search rules in
    rw same (c.in_err-frame.ensures.rejected c.args.order.now c.args.extras.now)

pub returns-in-Ok-clause-ok : goal.returns-in-Ok-clause-ok
returns-in-Ok-clause-ok c =
    let plan : IsPlan (length c.in_ok-frame.frame.old) c.args.order.now c.args.extras.now = search rules in
    let unknown : AreUnknown c.args.extras.now = search rules in
    rearranged c.args.octets.now c.args.order.now c.args.extras.now c.in_ok-frame.frame c.in_ok-frame.ensures.ok plan
    unknown c.in-Ok.ensures.valid c.in-Ok.answer.items c.in-Ok.ensures.ok (c.in-Ok.ensures.fits (search rules))
    c.in-Ok.ensures.octets

pub returns-in-Ok-clause-rearrangement : goal.returns-in-Ok-clause-rearrangement
returns-in-Ok-clause-rearrangement c =
    let plan : IsPlan (length c.in_ok-frame.frame.old) c.args.order.now c.args.extras.now = search rules in
    let unknown : AreUnknown c.args.extras.now = search rules in
    is_rearrangement c.args.octets.now c.args.order.now c.args.extras.now c.in_ok-frame.frame c.in_ok-frame.ensures.ok
    plan unknown c.in-Ok.ensures.valid c.in-Ok.answer.items c.in-Ok.ensures.ok
    (c.in-Ok.ensures.fits (search rules)) c.in-Ok.ensures.octets

pub returns-clause-rejected : goal.returns-clause-rejected
returns-clause-rejected c =
    let plan : IsPlan (length c.in_ok-frame.frame.old) c.args.order.now c.args.extras.now = search rules in
    let unknown : AreUnknown c.args.extras.now = search rules in
    let same : c.from.result ≡ of_writing c.in-Err.error = search rules in
    rw same (rejected_by_writing c.args.octets.now c.args.order.now c.args.extras.now c.in_ok-frame.frame
    c.in_ok-frame.ensures.ok plan unknown c.in-Err.error
    (λ is. c.in-Err.ensures.too_long (ap (λ (e : EncodeError). Err e) is)))

pub returns-in_err-frame-clause-no_other : goal.returns-in_err-frame-clause-no_other
returns-in_err-frame-clause-no_other c = λ why is other.
    let same : c.from_residual.result ≡ Err c.in_err-frame.field-0.0 = search rules in
    rw same (one_reason c.args.octets.now c.args.order.now c.args.extras.now why _ is
    (c.in_err-frame.ensures.rejected c.args.order.now c.args.extras.now) other)

pub returns-then-not-branch-clause-no_other : goal.returns-then-not-branch-clause-no_other
returns-then-not-branch-clause-no_other c = λ why is other.
    one_reason c.args.octets.now c.args.order.now c.args.extras.now why NotAnOrder is
    (c.in_ok-frame.frame, c.in_ok-frame.ensures.ok, search rules) other

pub returns-then-not-are_unknown-clause-no_other : goal.returns-then-not-are_unknown-clause-no_other
returns-then-not-are_unknown-clause-no_other c = λ why is other.
    one_reason c.args.octets.now c.args.order.now c.args.extras.now why KnownExtra is
    (c.in_ok-frame.frame, c.in_ok-frame.ensures.ok, search rules, search rules) other

pub returns-in-Ok-clause-no_other : goal.returns-in-Ok-clause-no_other
returns-in-Ok-clause-no_other c = λ why is other.
    no_reason c.args.octets.now c.args.order.now c.args.extras.now c.in-Ok.answer.items why (returns-in-Ok-clause-ok c) is other

pub returns-clause-no_other : goal.returns-clause-no_other
returns-clause-no_other c = λ why is other.
    one_reason c.args.octets.now c.args.order.now c.args.extras.now why c.from.result is (returns-clause-rejected c) other
