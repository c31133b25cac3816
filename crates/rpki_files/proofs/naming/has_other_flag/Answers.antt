use Rattle.rpki_der.specs.Place.{remaining}
use Rattle.rpki_files.specs.NamedFaults.{IsOtherFlag}
use Rattle.rpki_files.proofs.FirstExtensions.{first_is, none_is}
use Rattle.rpki_files.proofs.naming.has_other_flag.Goals as goal

pub returns-in-Some : goal.returns-in-Some
returns-in-Some c =
    let a = c.args in
    first_is (IsOtherFlag a.is_list a.this) (remaining a.at.now) c.in-Some.identifier.now c.in-Some.critical
    c.is_other_flag.result c.in-Some.ensures c.is_other_flag.ensures

pub returns-in-None : goal.returns-in-None
returns-in-None c = none_is (IsOtherFlag c.args.is_list c.args.this) (remaining c.args.at.now) c.in-None.ensures
