-- The limits that a walk reached at a string's certificate (own).
use Rattle.std.specs.Prelude.{◌≡◌, ◌+◌, ℕ, if◌then◌else◌, unwrap_or}
use Rattle.rpki_folder.specs.declared.limits.Reached.{Reached}
use Rattle.rpki_c.specs.declared.folder_lines.RpkiLine.{RpkiLine}

-- 1 for the depth, 2 for the steps, and their sum for both
abbrev pub limits_number : Reached → ℕ
limits_number r = (if r.deep then 1 else 0) + (if r.short then 2 else 0)

-- 0 if no number is known
abbrev pub needed_number : Reached → ℕ
needed_number r = unwrap_or r.needed 0

-- the line without them
abbrev pub but_for_limits : RpkiLine → RpkiLine
but_for_limits line = record {
  what = line.what;
  fault = line.fault;
  step = line.step;
  issuer = line.issuer;
  kind = line.kind;
  limits = 0;
  held = line.held;
  needed = 0;
}

-- the line tells them
pub record TellsReached (r : Reached) (line : RpkiLine) : Type 0 where
  pub limits_is : line.limits ≡ limits_number r
  pub needed_is : line.needed ≡ needed_number r
