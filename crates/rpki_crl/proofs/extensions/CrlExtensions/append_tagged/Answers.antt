use Rattle.std.proofs.Common.{◌≡◌, length, ap, rules, arith}
use Rattle.rpki_der.specs.Tags.{SEQUENCE}
use Rattle.rpki_der.proofs.Ending.{behind, enclosed, enclosed_long}
use Rattle.rpki_der.proofs.TooLong.{passed_long}
use Rattle.rpki_crl.specs.ListExtensions.Views.{extensions_view}
use Rattle.rpki_crl.proofs.ListsWritten.{elements_longer, sequence_longer}
use Rattle.rpki_crl.proofs.extensions.CrlExtensions.append_tagged.Goals as goal

pub returns-in_err-append_sequence-clause-too_long : goal.returns-in_err-append_sequence-clause-too_long
returns-in_err-append_sequence-clause-too_long c = passed_long c.from_residual.result _ _ _ c.from_residual.ensures.1
    c.in_err-append_sequence.ensures.too_long (elements_longer (extensions_view c.args.self.now))

pub returns-in_err-enclose-clause-too_long : goal.returns-in_err-enclose-clause-too_long
returns-in_err-enclose-clause-too_long c =
    let old = c.args.out.now.items in
    let start : c.len-start.result ≡ length old = search rules in
    let inside = behind c.len-start.result old _ _ start c.in_ok-append_sequence.ensures.ok in
    passed_long c.from_residual-in_err-enclose.result _ _ _ c.from_residual-in_err-enclose.ensures.1
    c.in_err-enclose.ensures.too_long.0
    (omega (arith, ap length inside, elements_longer (extensions_view c.args.self.now)))

pub returns-clause-too_long : goal.returns-clause-too_long
returns-clause-too_long c =
    let old = c.args.out.now.items in
    let start : c.len-start.result ≡ length old = search rules in
    let sequence = enclosed SEQUENCE c.len-start.result old _ _ _ start c.in_ok-append_sequence.ensures.ok c.in_ok-enclose.ensures.ok in
    enclosed_long c.enclose-2.result _ old _ _ _ c.enclose-2.ensures.too_long.0 start sequence
    (sequence_longer (extensions_view c.args.self.now))
