use Rattle.std.specs.Prelude.{map}
use Rattle.std.proofs.Common.{◌<◌, length, arith, below_more}
use Rattle.rpki_requests.specs.RequestWords.{Meets, demand, given_values}
use Rattle.rpki_requests.specs.RequestWords.Views.{given_fields}
use Rattle.rpki_requests.proofs.GivenValues.{counted, met, unmet}
use Rattle.rpki_requests.proofs.Settings.{of_each}
use Rattle.rpki_requests.proofs.words.misuse_of_settings.Goals as goal

pub returns-in-Some-clause-told : goal.returns-in-Some-clause-told
returns-in-Some-clause-told c = (
  _,
  counted _ c.args.asked.now.errand c.args.asked.now.given.items c.deref.result.now c.demand_of-often.result
      c.times.result c.demand_of-often.ensures c.times.ensures c.deref.ensures.value _ c.in-Some.ensures.told,
)

pub returns-in-Some-clause-wrong : goal.returns-in-Some-clause-wrong
returns-in-Some-clause-wrong c = λ all.
    unmet _ c.args.asked.now.errand c.args.asked.now.given.items c.deref.result.now c.demand_of-often.result
    c.times.result c.demand_of-often.ensures c.times.ensures c.deref.ensures.value c.in-Some.ensures.wrong
    (all _)

pub loop-setting-preserved : goal.loop-setting-preserved
loop-setting-preserved c =
    below_more _ _ c.loop-setting.invariant
    (met _ c.args.asked.now.errand c.args.asked.now.given.items c.deref.result.now c.demand_of-often.result
    c.times.result c.demand_of-often.ensures c.times.ensures c.deref.ensures.value c.in_default.ensures.wrong)

pub returns-clause-wrong : goal.returns-clause-wrong
returns-clause-wrong c =
    of_each (λ setting. Meets (demand setting c.args.asked.now.errand)
    (length (given_values setting (map given_fields c.args.asked.now.given.items))))
    (λ k low. let before : k < c.loop-setting.setting-index = omega arith in c.loop-setting.invariant k before)
