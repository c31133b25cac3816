-- What a run says that failed (own).
use Rattle.std.specs.Prelude.{◌≡◌, ◌⊎◌, ℕ, List, ◌++◌, codes, Option, Some, IsSome}
use Rattle.rpki_lines.specs.Watching.{HasFailed, device}
use Rattle.rpki_lines.specs.declared.watched.Watched.{Watched}

-- why it failed, in a line
abbrev pub failure_message : List ℕ → List ℕ
failure_message why = codes "rpki: " ++ (why ++ codes "\n")

-- the last that was said is such a line
abbrev pub EndsInFailure : Option (List ℕ) → Type 0
EndsInFailure said =
    (before : List ℕ) × (why : List ℕ) × (said ≡ Some (before ++ failure_message why))

-- a run has failed, and said why, in its last line; unless that couldn't be said, since the output
-- has failed. Where it isn't always known what an output holds, no more is known
abbrev pub TellsFailure : {W : Type 0} → (W → Option (List ℕ)) → Watched W → Type 0
TellsFailure {W} contents output =
    HasFailed output
    ⊎ (((held : W) → IsSome (contents held)) → EndsInFailure (contents (device output)))
