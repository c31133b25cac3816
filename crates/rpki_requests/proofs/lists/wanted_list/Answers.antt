use Rattle.std.specs.Prelude.{Err, map, Option}
use Rattle.std.proofs.Common.{◌≡◌, ℕ, inl, rules}
use Rattle.rpki_der.specs.Times.{Moment}
use Rattle.rpki_files.specs.Files.{contents}
use Rattle.rpki_issuing.specs.ValueTexts.{IsSerialText}
use Rattle.rpki_requests.specs.OptionValues.{IsMomentSaid, SaysAtMostOnce, SaysOnce}
use Rattle.rpki_requests.specs.RequestWords.{given_values}
use Rattle.rpki_requests.specs.RequestWords.Views.{given_fields}
use Rattle.rpki_requests.specs.ToldRefusals.{HasListValue}
use Rattle.rpki_requests.proofs.RefusalCases.{value_told}
use Rattle.rpki_requests.proofs.RevokedFiles.{list_ok}
use Rattle.rpki_requests.specs.declared.words.Setting.TheVariants.{Number, NextUpdate}
use Rattle.rpki_requests.proofs.lists.wanted_list.Goals as goal

pub returns-in-Err : goal.returns-in-Err
returns-in-Err c =
    let given = map given_fields c.args.order.now.given.items in
    let Is : Option ℕ → Type 0 = λ n. SaysAtMostOnce IsSerialText (given_values Number given) n in (
      inl (value_told (HasListValue given) Number Is c.in-Err.why (λ h. h) c.in-Err.ensures.0 c.in-Err.ensures.1),
      λ not w h. c.in-Err.ensures.1 not w.number h.number_is,
    )

pub returns-in-Err-moment : goal.returns-in-Err-moment
returns-in-Err-moment c =
    let given = map given_fields c.args.order.now.given.items in
    let Is : Moment → Type 0 = λ m. SaysOnce IsMomentSaid (given_values NextUpdate given) m in (
      inl (value_told (HasListValue given) NextUpdate Is c.in-Err-moment.why (λ h. h) c.in-Err-moment.ensures.0
          c.in-Err-moment.ensures.1),
      λ not w h. c.in-Err-moment.ensures.1 not w.next_update h.next_update_is,
    )

pub returns-in_err-revoked : goal.returns-in_err-revoked
returns-in_err-revoked c =
    let same : c.from_residual.result ≡ Err c.in_err-revoked.field-0.0 = search rules in
    rw same (c.in_err-revoked.ensures.0, λ not w h. c.in_err-revoked.ensures.1 not w.revoked h.revoked_are)

pub returns : goal.returns
returns c =
    let given = map given_fields c.args.order.now.given.items in
    list_ok given (contents c.args.files.now) c.args.issuer.now c.args.at c.in-Ok.number c.in-Ok-moment.moment
    _ c.in-Ok.ensures c.in-Ok-moment.ensures c.in_ok-revoked.ensures
