use Rattle.std.proofs.Common.{◌≡◌, Err, length, arith, rules}
use Rattle.rpki_der.specs.Tags.{CONTEXT_CONSTRUCTED, SEQUENCE}
use Rattle.rpki_der.specs.Values.{enc}
use Rattle.rpki_der.proofs.ValueWritten.{enc_longer}
use Rattle.rpki_blocks.specs.Systems.{as_block}
use Rattle.rpki_blocks.specs.Unions.{text_of, written_choice}
use Rattle.rpki_blocks.proofs.Enclosing.{enclosed, enclosed_long}
use Rattle.rpki_blocks.proofs.Lengths.{passed_long}
use Rattle.rpki_blocks.proofs.encode.put_numbers.Goals as goal

pub returns-in_err-put_choice-clause-too_long : goal.returns-in_err-put_choice-clause-too_long
returns-in_err-put_choice-clause-too_long c = passed_long c.from_residual.result _ _ _ c.from_residual.ensures.1
    c.in_err-put_choice.ensures.too_long
    (omega (
      arith,
      enc_longer (CONTEXT_CONSTRUCTED 0) (text_of (written_choice as_block c.args.resources.now)),
      enc_longer SEQUENCE (enc (CONTEXT_CONSTRUCTED 0) (text_of (written_choice as_block c.args.resources.now))),
    ))

pub returns-in_err-enclose-clause-too_long : goal.returns-in_err-enclose-clause-too_long
returns-in_err-enclose-clause-too_long c =
    let here : c.len-start.result ≡ length c.args.out.now.items = search rules in
    let choice = text_of (written_choice as_block c.args.resources.now) in
    passed_long c.from_residual-in_err-enclose.result _ (enc (CONTEXT_CONSTRUCTED 0) choice)
    _ c.from_residual-in_err-enclose.ensures.1
    (enclosed_long {T = Unit {0}} (Err c.in_err-enclose.field-0.0) (CONTEXT_CONSTRUCTED 0) c.len-start.result
    c.args.out.now.items choice _ c.in_err-enclose.ensures.too_long.0 here c.in_ok-put_choice.ensures.ok)
    (enc_longer SEQUENCE (enc (CONTEXT_CONSTRUCTED 0) choice))

pub returns-clause-too_long : goal.returns-clause-too_long
returns-clause-too_long c =
    let here : c.len-start.result ≡ length c.args.out.now.items = search rules in
    let one = enclosed (CONTEXT_CONSTRUCTED 0) c.len-start.result c.args.out.now.items _ _ _ here
    c.in_ok-put_choice.ensures.ok c.in_ok-enclose.ensures.ok in
    enclosed_long c.enclose-2.result SEQUENCE c.len-start.result c.args.out.now.items _ _ c.enclose-2.ensures.too_long.0 here one
