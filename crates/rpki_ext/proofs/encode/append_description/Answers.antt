use Rattle.std.proofs.Common.{◌≡◌, ◌++◌, ℕ, List, length, ap, ◌∙◌, append_assoc, rules, arith}
use Rattle.rpki_der.specs.Tags.{OBJECT_IDENTIFIER, CONTEXT, SEQUENCE}
use Rattle.rpki_der.specs.Values.{enc}
use Rattle.rpki_der.proofs.Ending.{enclosed_long}
use Rattle.rpki_der.proofs.IdentifierReads.{oid_takes}
use Rattle.rpki_der.proofs.TooLong.{passed_long}
use Rattle.rpki_der.proofs.ValueWritten.{enc_longer}
use Rattle.rpki_ext.specs.GeneralNames.{uri_format}
use Rattle.rpki_ext.proofs.WrittenLengths.{description_longer}
use Rattle.rpki_ext.proofs.encode.append_description.Goals as goal

pub put_oid-requires : goal.put_oid-requires
put_oid-requires c = oid_takes _ c.requires

pub returns-in_err-put_oid-clause-too_long : goal.returns-in_err-put_oid-clause-too_long
returns-in_err-put_oid-clause-too_long c = passed_long c.from_residual.result _ _ _ c.from_residual.ensures.1
    c.in_err-put_oid.ensures.too_long.0
    (omega (
      arith,
      enc_longer OBJECT_IDENTIFIER c.args.method.now,
      description_longer c.args.method.now c.args.uri.now,
    ))

pub returns-in_err-put_value-clause-too_long : goal.returns-in_err-put_value-clause-too_long
unfolding uri_format
returns-in_err-put_value-clause-too_long c = passed_long c.from_residual-in_err-put_value.result
    _ _ _ c.from_residual-in_err-put_value.ensures.1 c.in_err-put_value.ensures.too_long.0
    (omega (arith, enc_longer (CONTEXT 6) c.args.uri.now, description_longer c.args.method.now c.args.uri.now))

pub returns-clause-too_long : goal.returns-clause-too_long
unfolding uri_format
returns-clause-too_long c =
    let old = c.args.out.now.items in
    let method = enc OBJECT_IDENTIFIER c.args.method.now in
    let uri = enc (CONTEXT 6) c.args.uri.now in
    let start : c.len-start.result ≡ length old = search rules in
    let both = c.in_ok-put_value.ensures.ok ∙ ap (λ (b : List ℕ). b ++ uri) c.in_ok-put_oid.ensures.ok ∙ append_assoc old method uri in
    enclosed_long c.enclose.result _ old (method ++ uri) _ _ c.enclose.ensures.too_long.0 start both (enc_longer SEQUENCE (method ++ uri))
