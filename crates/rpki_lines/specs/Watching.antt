-- What is known of a watched reader or writer.
use Rattle.std.specs.Prelude.{◌≡◌, ℕ, ◌≤◌, false, List, length, Option}
use Rattle.std.specs.Io.KnownBytes.{Consumes}
use Rattle.rpki_lines.specs.declared.watched.Watched.{Watched}

-- the reader or writer that calls are passed on to
abbrev pub device : {T : Type 0} → Watched T → T
device w = w.inner

-- a call of it answered an error, or wrote nothing of octets that there were
abbrev pub HasFailed : {T : Type 0} → Watched T → Type 0
HasFailed w = w.works ≡ false

-- of the octets that a reader gives, this many were taken
abbrev pub Takes : ℕ → Option (List ℕ) → Option (List ℕ) → Type 0
Takes count given left = (octets : List ℕ) × (length octets ≡ count) × Consumes given left octets

-- of the octets that a reader gives, no more than this many were taken
abbrev pub TakesAtMost : ℕ → Option (List ℕ) → Option (List ℕ) → Type 0
TakesAtMost most given left = (octets : List ℕ) × (length octets ≤ most) × Consumes given left octets
