use Rattle.std.specs.Prelude.{map}
use Rattle.rpki_requests.specs.RequestWords.Views.{given_fields}
use Rattle.rpki_requests.proofs.GivenWants.{AreNumbers, Both, IsV4, IsV6, IsSystems, numbers_ok, numbers_none}
use Rattle.rpki_requests.proofs.OnlyAnswers.{both_only, when_ok, when_err}
use Rattle.rpki_requests.proofs.RefusalCases.{told}
use Rattle.rpki_requests.specs.ToldRefusals.{HasOptionValue, IsOptionRefusal}
use Rattle.rpki_requests.specs.declared.words.Setting.TheVariants.{Ipv4, Ipv6, AsNumbers}
use Rattle.rpki_requests.proofs.values.numbers.Goals as goal

pub returns-in-Ok : goal.returns-in-Ok
returns-in-Ok c =
    let given = map given_fields c.args.order.now.given.items in
    let addresses = both_only (IsOptionRefusal given) (IsV4 given) (IsV6 given) c.listed_of-v4.result
    c.listed_of-v6.result
    c.both-addresses.result c.both-addresses.ensures.both c.both-addresses.ensures.refused
    (told (HasOptionValue given) Ipv4 (IsV4 given) c.listed_of-v4.result (λ h. h) c.listed_of-v4.ensures)
    (told (HasOptionValue given) Ipv6 (IsV6 given) c.listed_of-v6.result (λ h. h) c.listed_of-v6.ensures) in
    let all = both_only (IsOptionRefusal given) (Both given (IsV4 given) (IsV6 given)) (IsSystems given)
    c.both-addresses.result c.listed_of-systems.result c.both-all.result c.both-all.ensures.both
    c.both-all.ensures.refused addresses
    (told (HasOptionValue given) AsNumbers (IsSystems given) c.listed_of-systems.result (λ h. h)
    c.listed_of-systems.ensures) in
    numbers_ok given _ (when_ok (IsOptionRefusal given) (AreNumbers given) c.both-all.result _ c.in-Ok.is all)

pub returns-in-Err : goal.returns-in-Err
returns-in-Err c =
    let given = map given_fields c.args.order.now.given.items in
    let addresses = both_only (IsOptionRefusal given) (IsV4 given) (IsV6 given) c.listed_of-v4.result
    c.listed_of-v6.result
    c.both-addresses.result c.both-addresses.ensures.both c.both-addresses.ensures.refused
    (told (HasOptionValue given) Ipv4 (IsV4 given) c.listed_of-v4.result (λ h. h) c.listed_of-v4.ensures)
    (told (HasOptionValue given) Ipv6 (IsV6 given) c.listed_of-v6.result (λ h. h) c.listed_of-v6.ensures) in
    let all = both_only (IsOptionRefusal given) (Both given (IsV4 given) (IsV6 given)) (IsSystems given)
    c.both-addresses.result c.listed_of-systems.result c.both-all.result c.both-all.ensures.both
    c.both-all.ensures.refused addresses
    (told (HasOptionValue given) AsNumbers (IsSystems given) c.listed_of-systems.result (λ h. h)
    c.listed_of-systems.ensures) in
    let none = when_err (IsOptionRefusal given) (AreNumbers given) c.both-all.result c.in-Err.why c.in-Err.is all in
    (none.0, λ not. numbers_none given (none.1 not))
