use Rattle.std.proofs.Common.{◌≡◌, length, ap, rules, arith}
use Rattle.rpki_der.specs.Tags.{CONTEXT_CONSTRUCTED, SEQUENCE}
use Rattle.rpki_der.specs.Values.{enc}
use Rattle.rpki_der.proofs.Ending.{behind, enclosed, enclosed_long}
use Rattle.rpki_der.proofs.TooLong.{passed_long}
use Rattle.rpki_der.proofs.ValueWritten.{enc_longer}
use Rattle.rpki_cert.proofs.frame.put_sequence.Goals as goal

pub returns-in_err-enclose-clause-too_long : goal.returns-in_err-enclose-clause-too_long
returns-in_err-enclose-clause-too_long c =
    let elements = c.args.elements.now in
    let start : c.len-start.result ≡ length c.args.out.now.items = search rules in
    let inside = behind c.len-start.result c.args.out.now.items elements _ start c.in_ok-extend_from_slice.ensures.items in
    passed_long c.from_residual-in_err-enclose.result _ _ _ c.from_residual-in_err-enclose.ensures.1
    c.in_err-enclose.ensures.too_long.0
    (omega (
      arith,
      ap length inside,
      enc_longer (CONTEXT_CONSTRUCTED 3) (enc SEQUENCE elements),
      enc_longer SEQUENCE elements,
    ))

pub returns-clause-too_long : goal.returns-clause-too_long
returns-clause-too_long c =
    let old = c.args.out.now.items in
    let elements = c.args.elements.now in
    let start : c.len-start.result ≡ length old = search rules in
    let sequence = enclosed SEQUENCE c.len-start.result old elements _ _ start c.in_ok-extend_from_slice.ensures.items
    c.in_ok-enclose.ensures.ok in
    enclosed_long c.enclose-2.result _ old (enc SEQUENCE elements) _ _ c.enclose-2.ensures.too_long.0 start sequence
    (enc_longer (CONTEXT_CONSTRUCTED 3) (enc SEQUENCE elements))
