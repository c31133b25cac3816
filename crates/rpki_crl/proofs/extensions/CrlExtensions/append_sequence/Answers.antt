use Rattle.std.proofs.Common.{◌≡◌, [], ◌∷◌, length, take, false, ap, ◌∙◌, rules, arith}
use Rattle.std.proofs.Math.Seq.{take-length}
use Rattle.std.proofs.lemmas.Result.{on_err_weaker}
use Rattle.rpki_der.specs.Extensions.{extension_part}
use Rattle.rpki_der.specs.Primitives.{number}
use Rattle.rpki_der.proofs.Ending.{ended, memory_says}
use Rattle.rpki_der.proofs.ValueWritten.{plain_oid}
use Rattle.rpki_der.proofs.TooLong.{passed_long, still_long}
use Rattle.rpki_ext.specs.ExtensionKinds.{crl_number}
use Rattle.rpki_crl.specs.ListExtensions.Views.{extensions_view}
use Rattle.rpki_crl.proofs.ListsWritten.{identifier_longer, number_longer}
use Rattle.rpki_crl.proofs.extensions.CrlExtensions.append_sequence.Goals as goal

pub returns-in_err-encode_authority_key_identifier-clause-too_long : goal.returns-in_err-encode_authority_key_identifier-clause-too_long
returns-in_err-encode_authority_key_identifier-clause-too_long c =
    passed_long c.from_residual.result _ _ _ c.from_residual.ensures.1
    c.in_err-encode_authority_key_identifier.ensures.too_long (identifier_longer (extensions_view c.args.self.now))

pub end_extension-requires-clause-oid : goal.end_extension-requires-clause-oid
end_extension-requires-clause-oid c = plain_oid 0x55 (0x1D ∷ 0x14 ∷ []) (omega arith, (omega arith, (omega arith, tt)))

pub returns-clause-too_long : goal.returns-clause-too_long
returns-clause-too_long c =
    let before = c.encode_authority_key_identifier.new.out.items in
    let inside = number c.args.self.now.crl_number in
    let start : c.len-start.result ≡ length before = search rules in
    let content = c.encode-number.ensures in
    let front = on_err_weaker c.encode-number.result
    (λ (e : c.encode-number.new.out.items ≡ before). ap (take (length before)) e ∙ take-length before)
    content.err in
    let writes = ended (extension_part crl_number.identifier false) _ before inside _ _ c.encode-number.result
    c.end_extension.result start content.ok front (memory_says c.encode-number.result _ content.memory)
    c.end_extension.ensures in
    still_long c.end_extension.result _ _ writes.too_long (number_longer (extensions_view c.args.self.now))
