use Rattle.std.specs.Prelude.{Err}
use Rattle.std.proofs.Common.{◌≡◌, rules}
use Rattle.rpki_c.proofs.WantedValues.{no_systems, no_v4, no_v6}
use Rattle.rpki_c.proofs.values.numbers.Goals as goal

pub returns-in_err-v4 : goal.returns-in_err-v4
returns-in_err-v4 c =
    let e = c.in_err-v4.field-0.0 in
    let same : c.from_residual.result ≡ Err e = search rules in
    rw same (no_v4 c.args.w.now e (c.in_err-v4.ensures c.args.w.now))

pub returns-in_err-v6 : goal.returns-in_err-v6
returns-in_err-v6 c =
    let e = c.in_err-v6.field-0.0 in
    let same : c.from_residual-in_err-v6.result ≡ Err e = search rules in
    rw same (no_v6 c.args.w.now e (c.in_err-v6.ensures c.args.w.now))

pub returns-in_err-systems : goal.returns-in_err-systems
returns-in_err-systems c =
    let e = c.in_err-systems.field-0.0 in
    let same : c.from_residual-in_err-systems.result ≡ Err e = search rules in
    rw same (no_systems c.args.w.now e (c.in_err-systems.ensures c.args.w.now))
