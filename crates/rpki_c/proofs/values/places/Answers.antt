use Rattle.std.specs.Prelude.{Err}
use Rattle.std.proofs.Common.{◌≡◌}
use Rattle.rpki_c.proofs.WantedValues.{no_list}
use Rattle.rpki_c.proofs.Unread.{passed_on}
use Rattle.rpki_c.proofs.values.places.Goals as goal

pub returns-in_err-rsync_of-5 : goal.returns-in_err-rsync_of-5
returns-in_err-rsync_of-5 c =
    let e = c.in_err-rsync_of-5.field-0.0 in
    let same : c.from_residual-in_err-rsync_of-5.result ≡ Err e = passed_on _ _
    c.from_residual-in_err-rsync_of-5.ensures.1 in
    rw same (no_list c.args.w.now e c.in_err-rsync_of-5.ensures)
