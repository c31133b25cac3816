use Rattle.std.specs.Prelude.{map}
use Rattle.rpki_requests.specs.OptionValues.{GivesNumbers, GivesPlaces}
use Rattle.rpki_requests.specs.RequestWords.Views.{given_fields}
use Rattle.rpki_requests.proofs.GivenWants.{AreParts, IsFrom, IsSerialGiven, IsUntil, wanted_ok}
use Rattle.rpki_requests.proofs.OnlyAnswers.{both_only, when_ok, when_err}
use Rattle.rpki_requests.proofs.RefusalCases.{value_told}
use Rattle.rpki_requests.specs.ToldRefusals.{HasOptionValue, IsOptionRefusal}
use Rattle.rpki_requests.specs.declared.words.Setting.TheVariants.{Serial, From, Until}
use Rattle.rpki_requests.proofs.values.wanted.Goals as goal

pub returns-in-Err : goal.returns-in-Err
returns-in-Err c =
    let given = map given_fields c.args.order.now.given.items in (
      value_told (HasOptionValue given) Serial (IsSerialGiven given) c.in-Err.why (λ h. h) c.in-Err.ensures.0
          c.in-Err.ensures.1,
      λ not w h. c.in-Err.ensures.1 not w.serial h.serial_is,
    )

pub returns-in-Err-moment : goal.returns-in-Err-moment
returns-in-Err-moment c =
    let given = map given_fields c.args.order.now.given.items in (
      value_told (HasOptionValue given) From (IsFrom given) c.in-Err-moment.why (λ h. h) c.in-Err-moment.ensures.0
          c.in-Err-moment.ensures.1,
      λ not w h. c.in-Err-moment.ensures.1 not w.not_before h.from_is,
    )

pub returns-in-Err-moment-2 : goal.returns-in-Err-moment-2
returns-in-Err-moment-2 c =
    let given = map given_fields c.args.order.now.given.items in (
      value_told (HasOptionValue given) Until (IsUntil given) c.in-Err-moment-2.why (λ h. h) c.in-Err-moment-2.ensures.0
          c.in-Err-moment-2.ensures.1,
      λ not w h. c.in-Err-moment-2.ensures.1 not w.not_after h.until_is,
    )

pub returns-in-Ok-both : goal.returns-in-Ok-both
returns-in-Ok-both c =
    let given = map given_fields c.args.order.now.given.items in
    let parts = both_only (IsOptionRefusal given) (GivesNumbers given) (GivesPlaces given) c.numbers-numbers.result
    c.places-places.result c.both.result c.both.ensures.both c.both.ensures.refused c.numbers-numbers.ensures
    c.places-places.ensures in
    wanted_ok given c.in-Ok.serial c.in-Ok-moment.from c.in-Ok-moment-2.until c.in-Ok-both.numbers
    c.in-Ok-both.places c.in-Ok.ensures c.in-Ok-moment.ensures c.in-Ok-moment-2.ensures
    (when_ok (IsOptionRefusal given) (AreParts given) c.both.result (c.in-Ok-both.numbers, c.in-Ok-both.places)
    c.in-Ok-both.is parts)

pub returns-in-Err-both : goal.returns-in-Err-both
returns-in-Err-both c =
    let given = map given_fields c.args.order.now.given.items in
    let parts = both_only (IsOptionRefusal given) (GivesNumbers given) (GivesPlaces given) c.numbers-numbers.result
    c.places-places.result c.both.result c.both.ensures.both c.both.ensures.refused c.numbers-numbers.ensures
    c.places-places.ensures in
    let none = when_err (IsOptionRefusal given) (AreParts given) c.both.result c.in-Err-both.why c.in-Err-both.is
    parts in
    (none.0, λ not w h. none.1 not (w.numbers, w.places) (h.numbers_are, h.places_are))
