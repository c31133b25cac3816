use Rattle.std.specs.Prelude.{slice_get, Some}
use Rattle.std.proofs.Common.{◌≡◌, ◌<◌, ℕ}
use Rattle.rpki_files.specs.LocatorFiles.{AreLocator}
use Rattle.rpki_verdicts.specs.GivenLocators.{LocatorFields}
use Rattle.rpki_verdicts.proofs.path.first_no_locator.Given as goal

-- the earlier files are locators
abbrev pub invariant-loop-place : goal.invariant-loop-place
invariant-loop-place l = (k : ℕ) → k < l.place → (earlier : LocatorFields) →
    slice_get l.question.locators k ≡ Some earlier → AreLocator l.question.strict earlier.file.octets
