use Rattle.std.proofs.Common.{◌≢◌, ℕ, List, Bool, refl, sym, ◌∙◌}
use Rattle.std.proofs.lemmas.Bool.{false≢true}
use Rattle.rpki_keys.specs.LocatorFaults.{RejectsTal}
use Rattle.rpki_keys.specs.declared.tal.tal_error.TalError.{TalError}
use Rattle.rpki_keys.specs.declared.tal.tal_error.TalError.TheVariants.{NoText, BadUri, NoUri, NoKey, BadKey, Memory}
use Rattle.rpki_files.specs.LocatorFiles.{AreLocator}
use Rattle.rpki_files.proofs.locators.read_locator.Goals as goal

-- octets that are rejected are no locator, unless memory ran out
no_locator : (strict : Bool) (e : TalError) (octets : List ℕ) → e ≢ Memory → RejectsTal strict e octets → AreLocator strict octets → ⊥
no_locator strict NoText octets not_memory none it = none it.0 it.1
no_locator strict BadUri octets not_memory none it = none it.0 it.1
no_locator strict NoUri octets not_memory none it = none it.0 it.1
no_locator strict NoKey octets not_memory none it = none it.0 it.1
no_locator strict BadKey octets not_memory none it = none it.0 it.1
no_locator strict Memory octets not_memory none it = not_memory refl

pub returns-else-is_memory-clause-read : goal.returns-else-is_memory-clause-read
returns-else-is_memory-clause-read c =
    let not_memory : c.in-Err.fault ≢ Memory = λ is. false≢true (sym c.if-is_memory.false ∙ c.is_memory.ensures.1 is) in
    (not_memory, c.in-Err.ensures.fault, no_locator c.args.strict c.in-Err.fault c.args.octets.now not_memory c.in-Err.ensures.rejected)
