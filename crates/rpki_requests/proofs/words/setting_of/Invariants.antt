use Rattle.std.proofs.Common.{◌≡◌, ◌<◌, ℕ, get_or}
use Rattle.rpki_requests.specs.declared.words.Setting.TheVariants.{Issuer}
use Rattle.rpki_requests.specs.RequestWords.{asked_option_name}
use Rattle.rpki_requests.proofs.Settings.{settings}
use Rattle.rpki_requests.proofs.words.setting_of.Given as goal

-- no option so far has this name
abbrev pub invariant-loop-setting : goal.invariant-loop-setting
invariant-loop-setting l = (k : ℕ) → k < l.setting-index → l.word ≡ asked_option_name (get_or settings k Issuer) → ⊥
