use Rattle.std.specs.Prelude.{map}
use Rattle.std.proofs.Common.{◌<◌, ℕ, get_or, length}
use Rattle.rpki_requests.specs.declared.words.Setting.TheVariants.{Issuer}
use Rattle.rpki_requests.specs.RequestWords.{Meets, demand, given_values}
use Rattle.rpki_requests.specs.RequestWords.Views.{given_fields}
use Rattle.rpki_requests.proofs.Settings.{settings}
use Rattle.rpki_requests.proofs.words.misuse_of_settings.Given as goal

-- each option so far stands as often as is demanded
abbrev pub invariant-loop-setting : goal.invariant-loop-setting
invariant-loop-setting l = (k : ℕ) → k < l.setting-index →
    Meets (demand (get_or settings k Issuer) l.asked.errand)
    (length (given_values (get_or settings k Issuer) (map given_fields l.asked.given.items)))
