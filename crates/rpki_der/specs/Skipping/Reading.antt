-- The reading functions of values that are skipped.
use Rattle.std.specs.Prelude.{ℕ, List, [], ◌∷◌, Option, Some, None, ◌-◌, length, take, ◌/◌, ◌%◌, Bool, nat_eq, zero, suc, if◌then◌else◌}
use Rattle.rpki_der.specs.Sequences.Reading.{sequence_of}
use Rattle.rpki_der.specs.Skipping.{levels}
use Rattle.rpki_der.specs.Values.Reading.{◌>>=◌, value_at}

-- the identifier octet and the content of the value that stands at the front
abbrev pub any_at : List ℕ → Option ((ℕ × List ℕ) × List ℕ)
any_at [] = None
any_at (tag ∷ bytes) = do
  v ← value_at tag (tag ∷ bytes)
  Some ((tag, v.0), v.1)

-- the octets of that value
unfoldable pub captured_at : List ℕ → Option (List ℕ × List ℕ)
captured_at bytes = do
  v ← any_at bytes
  Some (take (length bytes - length v.1) bytes, v.1)

-- whether the identifier octet is one of a primitive value
abbrev pub is_primitive : ℕ → Bool
is_primitive tag = nat_eq ((tag / 32) % 2) 0

-- past a value with at most so many levels
unfoldable pub skip_within : ℕ → List ℕ → Option (Unit {0} × List ℕ)
skip_within zero bytes = do
  v ← any_at bytes
  if is_primitive v.0.0 then Some (tt, v.1) else None
skip_within (suc depth) bytes = do
  v ← any_at bytes
  if is_primitive v.0.0 then Some (tt, v.1) else (sequence_of (skip_within depth) v.0.1 >>= λ elements. Some (tt, v.1))

-- skips a value
unfoldable pub skip_at : List ℕ → Option (Unit {0} × List ℕ)
skip_at = skip_within levels

-- past such values to the end
abbrev pub skip_sequence_within : ℕ → List ℕ → Option (Unit {0})
skip_sequence_within depth bytes = sequence_of (skip_within depth) bytes >>= λ elements. Some tt

-- skips values to the end of the octets
unfoldable pub skip_all_of : List ℕ → Option (Unit {0})
skip_all_of = skip_sequence_within levels
