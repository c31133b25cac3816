use Rattle.std.specs.Prelude.{slice_get, Some}
use Rattle.std.proofs.Common.{◌≡◌, ◌<◌, ℕ}
use Rattle.rpki_verdicts.specs.GivenLocators.{LocatorFields, HasKeyRead}
use Rattle.rpki_verdicts.proofs.locators.place_of_key.Given as goal

-- no earlier file was read as a locator of the key
abbrev pub invariant-loop-place : goal.invariant-loop-place
invariant-loop-place l = (k : ℕ) → k < l.place → (earlier : LocatorFields) → slice_get l.locators k ≡ Some earlier →
    HasKeyRead l.key earlier → ⊥
