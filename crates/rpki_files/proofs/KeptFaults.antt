-- A fault that is kept where it is true, and else is told as the plain one.
use Rattle.std.specs.Prelude.{Bool, true, false}
use Rattle.std.proofs.Common.{◌≢◌, ℕ, List, refl}
use Rattle.rpki_der.specs.declared.error.DecodeError.{DecodeError}
use Rattle.rpki_der.specs.declared.error.DecodeError.TheVariants as decoding
use Rattle.rpki_files.specs.Misreads.{StopsFor, TellsTruth, kept_fault}
use Rattle.rpki_files.specs.declared.places.Place.{Place}

-- reading stops for it
pub stops_for_kept : (is_list : Bool) (octets : List ℕ) (fault : DecodeError) (place : Place) (is_true : Bool) →
    TellsTruth is_list octets fault (place, is_true) → StopsFor is_list octets (kept_fault fault is_true) place
stops_for_kept is_list octets fault place true told = let truth = told.1 in (told.0, truth.0 refl)
stops_for_kept is_list octets fault place false told = (told.0, tt)

-- it isn't that memory ran out
pub kept_not_memory : (fault : DecodeError) (is_true : Bool) → fault ≢ decoding.Memory → kept_fault fault is_true ≢ decoding.Memory
kept_not_memory fault true not_memory = not_memory
kept_not_memory fault false not_memory = λ same. absurd cc
