use Rattle.std.proofs.Common.{◌≡◌, Err, rules}
use Rattle.rpki_files.specs.StopPlaces.{StopsAmong}
use Rattle.rpki_files.proofs.StopWalks.{field_read, field_stops, passed}
use Rattle.rpki_files.proofs.places.past_all.Goals as goal

pub loop-field-preserved : goal.loop-field-preserved
loop-field-preserved c =
    let l = c.loop-field in
    field_read c.args.fields.now l.field-index _ c.args.cursor.now l.cursor c.loop-field-test.true l.invariant
    c.past.new.cursor c.in_ok-past.ensures.read

pub returns-in_err-past-clause-stop : goal.returns-in_err-past-clause-stop
returns-in_err-past-clause-stop c =
    let l = c.loop-field in
    let same : c.from_residual.result ≡ Err c.in_err-past.field-0.0 = search rules in
    passed _ (StopsAmong c.args.fields.now c.args.cursor.now) _ _ same c.in_err-past.ensures.stop
    (field_stops c.args.fields.now l.field-index _ c.args.cursor.now l.cursor c.loop-field-test.true
    l.invariant)
