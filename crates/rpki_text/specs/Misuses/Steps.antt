-- What the functions that read a command line tell of an option or a word.
use Rattle.std.specs.Prelude.{◌≡◌, ◌⊎◌, ℕ, List, ◌∷◌}
use Rattle.rpki_text.specs.declared.command_line.arguments.Misuse.{Misuse}
use Rattle.rpki_text.specs.declared.command_line.arguments.Setting.{Setting}
use Rattle.rpki_text.specs.declared.command_line.arguments.Setting.TheVariants.{Depth, StepCount, Output, ShortOutput}
use Rattle.rpki_text.specs.Misuses.{BeginsWithOption, IsWrongFirst}

-- the option bounds a walk, by a number
abbrev pub IsBound : Setting → Type 0
IsBound setting = (setting ≡ Depth) ⊎ (setting ≡ StepCount)

-- the option names the format of what is printed, by either of its names
abbrev pub NamesFormat : Setting → Type 0
NamesFormat setting = (setting ≡ Output) ⊎ (setting ≡ ShortOutput)

-- words that begin with this option and this value are wrong there, as is told
abbrev pub TellsValue : Misuse → Setting → List ℕ → Type 0
TellsValue misuse setting value =
    (words : List (List ℕ)) → BeginsWithOption setting value words → IsWrongFirst misuse words

-- words that begin with this one are wrong there, as is told
abbrev pub TellsWord : Misuse → List ℕ → Type 0
TellsWord misuse word = (rest : List (List ℕ)) → IsWrongFirst misuse (word ∷ rest)
