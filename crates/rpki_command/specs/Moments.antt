-- The moment of a run (own).
use Rattle.std.specs.Prelude.{◌≡◌, Option, Some, None}
use Rattle.rpki_der.specs.Times.{Moment}

-- the moment that is named, or else one that the clock tells
abbrev pub IsMomentBy : (Moment → Type 0) → Option Moment → Moment → Type 0
IsMomentBy tells None now = tells now
IsMomentBy tells (Some named) now = now ≡ named
