use Rattle.std.proofs.Common.{◌≡◌, ◌<◌, arith}
use Rattle.rpki_requests.specs.RequestWords.{asked_option_name}
use Rattle.rpki_requests.proofs.Settings.{of_each}
use Rattle.rpki_requests.proofs.words.setting_of.Goals as goal

pub returns-clause-unknown : goal.returns-clause-unknown
returns-clause-unknown c =
    of_each (λ setting. c.args.word.now ≡ asked_option_name setting → ⊥)
    (λ k low. let before : k < c.loop-setting.setting-index = omega arith in c.loop-setting.invariant k before)
