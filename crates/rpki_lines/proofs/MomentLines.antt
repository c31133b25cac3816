-- The digits behind the beginning of a line tell its moment.
use Rattle.std.specs.Prelude.{IfSome, IfNone}
use Rattle.std.proofs.Common.{◌≡◌, ℕ, List, ◌++◌, Option, Some, None, sym, ap, ◌∙◌, codes}
use Rattle.rpki_der.specs.Times.{Moment, IsMoment, fourteen_digits}
use Rattle.rpki_lines.specs.InputLines.{IsMomentLine}

-- a line of "at " and a moment that is read tells it
pub moment_line : (line text : List ℕ) (o : Option Moment) → line ≡ codes "at " ++ text →
    IfSome o (λ m. IsMoment m × (text ≡ fourteen_digits m)) → IfSome o (λ now. IsMomentLine now line)
moment_line line text None parts found = tt
moment_line line text (Some m) parts found = record { exists = found.0; is = parts ∙ ap (λ (x : List ℕ). codes "at " ++ x) found.1 }

after_at : (x y : List ℕ) → codes "at " ++ x ≡ codes "at " ++ y → x ≡ y
after_at x y e = ap (λ (l : List ℕ). Rattle.std.specs.Prelude.drop 3 l) e

-- a line of "at " and no moment that is read tells none
pub no_moment_line : (line text : List ℕ) (o : Option Moment) → line ≡ codes "at " ++ text →
    IfNone o ((m : Moment) → IsMoment m → text ≡ fourteen_digits m → ⊥) →
    IfNone o ((now : Moment) → IsMomentLine now line → ⊥)
no_moment_line line text (Some m) parts none = tt
no_moment_line line text None parts none = λ m is. none m is.exists (after_at text (fourteen_digits m) (sym parts ∙ is.is))
