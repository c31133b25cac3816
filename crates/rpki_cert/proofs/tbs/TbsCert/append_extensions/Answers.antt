use Rattle.std.proofs.Common.{◌≡◌, length, ap, ◌++◌, ◌∙◌, rules, arith}
use Rattle.rpki_der.specs.Tags.{CONTEXT_CONSTRUCTED, SEQUENCE}
use Rattle.rpki_der.specs.Values.{enc}
use Rattle.rpki_der.proofs.Ending.{behind, enclosed, enclosed_long}
use Rattle.rpki_der.proofs.TooLong.{passed_long}
use Rattle.rpki_der.proofs.ValueWritten.{enc_longer}
use Rattle.rpki_ext.specs.CertificateExtensions.{ExtensionFields, extensions}
use Rattle.rpki_cert.proofs.tbs.TbsCert.append_extensions.Goals as goal

pub returns-in_err-encode_row-clause-too_long : goal.returns-in_err-encode_row-clause-too_long
returns-in_err-encode_row-clause-too_long c =
    let elements = extensions c.args.self.now.extensions in
    passed_long c.from_residual.result _ _ _ c.from_residual.ensures.1 c.in_err-encode_row.ensures.too_long
    (rw c.extensions.ensures
    (omega (arith, enc_longer (CONTEXT_CONSTRUCTED 3) (enc SEQUENCE elements), enc_longer SEQUENCE elements)))

pub returns-in_err-enclose-clause-too_long : goal.returns-in_err-enclose-clause-too_long
returns-in_err-enclose-clause-too_long c =
    let old = c.args.out.now.items in
    let elements = extensions c.args.self.now.extensions in
    let start : c.len-start.result ≡ length old = search rules in
    let held = c.in_ok-encode_row.ensures.ok ∙ ap (λ (x : ExtensionFields). old ++ extensions x) c.extensions.ensures in
    let inside = behind c.len-start.result old elements _ start held in
    passed_long c.from_residual-in_err-enclose.result _ _ _ c.from_residual-in_err-enclose.ensures.1
    c.in_err-enclose.ensures.too_long.0
    (omega (
      arith,
      ap length inside,
      enc_longer (CONTEXT_CONSTRUCTED 3) (enc SEQUENCE elements),
      enc_longer SEQUENCE elements,
    ))

pub returns-clause-too_long : goal.returns-clause-too_long
returns-clause-too_long c =
    let old = c.args.out.now.items in
    let elements = extensions c.args.self.now.extensions in
    let start : c.len-start.result ≡ length old = search rules in
    let held = c.in_ok-encode_row.ensures.ok ∙ ap (λ (x : ExtensionFields). old ++ extensions x) c.extensions.ensures in
    let sequence = enclosed SEQUENCE c.len-start.result old elements _ _ start held c.in_ok-enclose.ensures.ok in
    enclosed_long c.enclose-2.result _ old (enc SEQUENCE elements) _ _ c.enclose-2.ensures.too_long.0 start sequence
    (enc_longer (CONTEXT_CONSTRUCTED 3) (enc SEQUENCE elements))
