-- The reading function of turns at values of DER.
use Rattle.std.specs.Prelude.{ℕ, if◌then◌else◌, List, [], ◌∷◌, bytes_eq, Option, Some, None}
use Rattle.rpki_der.specs.Tags.{OBJECT_IDENTIFIER}
use Rattle.rpki_der.specs.Values.Reading.{◌>>=◌, value_at}
use Rattle.rpki_files.specs.FileSorts.{type_octets}
use Rattle.rpki_files.specs.declared.sorts.Turn.{Turn}
use Rattle.rpki_files.specs.declared.sorts.Turn.TheVariants.{Over, Into, Named}

-- what stands behind one turn
unfoldable pub turned : Turn → List ℕ → Option (List ℕ)
turned (Over tag) octets = value_at tag octets >>= λ v. Some v.1
turned (Into tag) octets = value_at tag octets >>= λ v. Some v.0
turned (Named type) octets =
    value_at OBJECT_IDENTIFIER octets >>= λ v. if bytes_eq v.0 (type_octets type) then Some v.1 else None

-- what stands behind turns, one after the other
abbrev pub all_turned : List Turn → List ℕ → Option (List ℕ)
all_turned [] octets = Some octets
all_turned (turn ∷ turns) octets = turned turn octets >>= λ rest. all_turned turns rest
