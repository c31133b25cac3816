-- A writer of a short content errs only where it is out of memory.
use Rattle.std.specs.Prelude.{IfErr, IsErrOf}
use Rattle.std.proofs.Common.{◌≡◌, ◌^◌, ◌<◌, ◌≤◌, List, ℕ, length, Result, Ok, Err, refl, arith}
use Rattle.rpki_der.specs.declared.error.EncodeError.{EncodeError}
use Rattle.rpki_der.specs.declared.error.EncodeError.TheVariants.{TooLong, Memory}

-- a writer of a short content errs only with Memory
pub only_memory : {X : Type 0} (r : Result X EncodeError) (c : List ℕ) → (IsErrOf r TooLong → 2 ^ 32 ≤ length c) →
    length c < 2 ^ 32 → IfErr r (λ e. e ≡ Memory)
only_memory (Ok x) c long short = tt
only_memory (Err TooLong) c long short = let h : 2 ^ 32 ≤ length c = long refl in absurd (omega arith)
only_memory (Err Memory) c long short = refl
