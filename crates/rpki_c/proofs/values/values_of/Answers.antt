use Rattle.std.specs.Prelude.{Err}
use Rattle.std.proofs.Common.{◌≡◌}
use Rattle.rpki_c.proofs.WantedValues.{no_key}
use Rattle.rpki_c.proofs.Unread.{passed_on}
use Rattle.rpki_c.proofs.values.values_of.Goals as goal

pub returns-in_err-key : goal.returns-in_err-key
returns-in_err-key c =
    let e = c.in_err-key.field-0.0 in
    let same : c.from_residual-in_err-key.result ≡ Err e = passed_on _ _ c.from_residual-in_err-key.ensures.1 in
    rw same (no_key c.args.w.now c.args.terms e c.in_err-key.ensures)
