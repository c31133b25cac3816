use Rattle.std.proofs.Common.{◌≡◌}
use Rattle.rpki_der.specs.Place.{remaining}
use Rattle.rpki_files.proofs.FirstExtensions.{first_is, none_is}
use Rattle.rpki_files.proofs.naming.is_under.Goals as goal

pub returns-in-Some : goal.returns-in-Some
returns-in-Some c =
    let a = c.args in
    first_is (λ id _. id ≡ a.identifier.now) (remaining a.at.now) c.in-Some.other.now c.in-Some.field-0-1
    c.is_identifier.result c.in-Some.ensures c.is_identifier.ensures

pub returns-in-None : goal.returns-in-None
returns-in-None c = none_is (λ id _. id ≡ c.args.identifier.now) (remaining c.args.at.now) c.in-None.ensures
