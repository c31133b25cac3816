use Rattle.std.proofs.Common.{◌≡◌, ℕ, List, length, ap, rules, arith}
use Rattle.rpki_der.specs.Tags.{SEQUENCE}
use Rattle.rpki_der.proofs.Ending.{enclosed_long}
use Rattle.rpki_der.proofs.TooLong.{passed_long}
use Rattle.rpki_der.proofs.ValueWritten.{enc_longer}
use Rattle.rpki_ext.specs.ExtensionKinds.{authority_information_access_format, ca_issuers, description}
use Rattle.rpki_ext.proofs.authority_access.append_content.Goals as goal

pub returns-in_err-append_description-clause-too_long : goal.returns-in_err-append_description-clause-too_long
unfolding authority_information_access_format
returns-in_err-append_description-clause-too_long c =
    let same = ap (λ (uri : List ℕ). length (description ca_issuers uri)) c.as_bytes.ensures.octets in
    passed_long c.from_residual.result _ _ _ c.from_residual.ensures.1 c.in_err-append_description.ensures.too_long
    (omega (arith, enc_longer SEQUENCE (description ca_issuers c.args.uri.now), same))

pub returns-clause-too_long : goal.returns-clause-too_long
unfolding authority_information_access_format
returns-clause-too_long c =
    let same = ap (λ (uri : List ℕ). length (description ca_issuers uri)) c.as_bytes.ensures.octets in
    let start : c.len-start.result ≡ length c.args.out.now.items = search rules in
    enclosed_long c.enclose.result _ c.args.out.now.items _ _ _ c.enclose.ensures.too_long.0 start
    c.in_ok-append_description.ensures.ok
    (omega (arith, enc_longer SEQUENCE (description ca_issuers c.args.uri.now), same))
