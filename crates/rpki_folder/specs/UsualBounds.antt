-- The limits of a walk where nobody says them (own).
use Rattle.std.specs.Prelude.{ℕ}

-- how many steps a walk below one trust anchor has. They depend on nothing that is in the folder, so
-- that no file changes how far a walk goes below the CAs of others
abbrev pub usual_steps : ℕ
usual_steps = 10000000
