use Rattle.std.proofs.Common.{◌≡◌, true}
use Rattle.rpki_der.specs.Place.{remaining}
use Rattle.rpki_files.proofs.FirstExtensions.{first_is, none_is}
use Rattle.rpki_files.proofs.naming.is_critical_under.Goals as goal

pub returns-in-Some : goal.returns-in-Some
returns-in-Some c =
    let a = c.args in
    first_is (λ id critical. (id ≡ a.identifier.now) × (critical ≡ true)) (remaining a.at.now) c.in-Some.other.now
    c.in-Some.critical c.is_critical.result c.in-Some.ensures c.is_critical.ensures

pub returns-in-None : goal.returns-in-None
returns-in-None c = none_is (λ id critical. (id ≡ c.args.identifier.now) × (critical ≡ true)) (remaining c.args.at.now) c.in-None.ensures
