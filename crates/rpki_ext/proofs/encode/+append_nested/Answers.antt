use Rattle.std.proofs.Common.{◌≡◌, length, rules, arith}
use Rattle.rpki_der.proofs.Ending.{enclosed_long}
use Rattle.rpki_der.proofs.TooLong.{passed_long}
use Rattle.rpki_ext.proofs.WrittenLengths.{nested_longer, inner_longer}
use Rattle.rpki_ext.proofs.encode.+append_nested.Goals as goal

pub returns-in-len1-clause-too_long : goal.returns-in-len1-clause-too_long
returns-in-len1-clause-too_long t c =
    λ long. omega (arith, nested_longer c.args.tags.now c.args.octets.now, c.put_value.ensures.too_long.0 long)

pub returns-in_err-append_nested-in-len1-up-clause-too_long : goal.returns-in_err-append_nested-in-len1-up-clause-too_long
returns-in_err-append_nested-in-len1-up-clause-too_long t c =
    passed_long c.from_residual-in_err-append_nested-in-len1-up.result
    _ _ _ c.from_residual-in_err-append_nested-in-len1-up.ensures.1
    c.in_err-append_nested-in-len1-up.ensures.too_long (inner_longer c.args.tags.now c.args.octets.now)

pub returns-in_ok-append_nested-in-len1-up-clause-too_long : goal.returns-in_ok-append_nested-in-len1-up-clause-too_long
returns-in_ok-append_nested-in-len1-up-clause-too_long t c =
    let start : c.len-start.result ≡ length c.args.out.now.items = search rules in
    enclosed_long c.enclose.result _ c.args.out.now.items _ _ _ c.enclose.ensures.too_long.0 start
    c.in_ok-append_nested-in-len1-up.ensures.ok (inner_longer c.args.tags.now c.args.octets.now)
