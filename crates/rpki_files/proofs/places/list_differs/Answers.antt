use Rattle.rpki_files.proofs.TwoAlgorithms.{differ_as, none_differs}
use Rattle.rpki_files.proofs.places.list_differs.Goals as goal

pub returns-in-Ok : goal.returns-in-Ok
returns-in-Ok c = differ_as c.in-Ok.inside c.args.signed.now c.args.here.now c.is_other.result c.in-Ok.ensures c.is_other.ensures

pub returns-in-Err : goal.returns-in-Err
returns-in-Err c = none_differs c.args.signed.now c.args.here.now c.in-Err.ensures
