-- Whether a moment lies in a period of validity (RFC 5280 4.1.2.5, 6.1.3 (a) (2)).
use Rattle.std.specs.Prelude.{◌≤◌, List, [], ◌∷◌, ℕ, codes}
use Rattle.rpki_der.specs.Times.{Moment, second_number}
use Rattle.rpki_parts.specs.Validities.{ValidityFields}
use Rattle.rpki_parts.specs.declared.valid_at.ValidityError.{ValidityError}
use Rattle.rpki_parts.specs.declared.valid_at.ValidityError.TheVariants.{NotYetValid, Expired}

-- the first moment is the second one or before it
abbrev pub IsNotAfter : Moment → Moment → Type 0
IsNotAfter m n = second_number m ≤ second_number n

-- the moment has not this fault: both ends belong to the period
abbrev pub IsInTime : ValidityFields → Moment → ValidityError → Type 0
IsInTime v now NotYetValid = IsNotAfter v.not_before now
IsInTime v now Expired = IsNotAfter now v.not_after

-- in the order in which they are tested
abbrev pub validity_faults : List ValidityError
validity_faults = NotYetValid ∷ Expired ∷ []

-- the name of the error
abbrev pub validity_error_name : ValidityError → List ℕ
validity_error_name NotYetValid = codes "NotYetValid"
validity_error_name Expired = codes "Expired"
