-- The reading function of a sequence.
use Rattle.std.specs.Prelude.{ℕ, suc, zero, List, [], ◌∷◌, Option, Some, None, length, ◌≡◌, ◌<◌}
use Rattle.rpki_der.specs.Values.Reading.{◌>>=◌}

-- at most n values, and nothing after them
abbrev pub sequence_at : {V : Type 0} → (List ℕ → Option (V × List ℕ)) → ℕ → List ℕ → Option (List V)
sequence_at read n [] = Some []
sequence_at read zero (b ∷ bytes) = None
sequence_at read (suc n) (b ∷ bytes) = do
  v ← read (b ∷ bytes)
  vs ← sequence_at read n v.1
  Some (v.0 ∷ vs)

-- the sequence that the octets are
unfoldable pub sequence_of : {V : Type 0} → (List ℕ → Option (V × List ℕ)) → List ℕ → Option (List V)
sequence_of read octets = sequence_at read (length octets) octets

-- what remains after a value is less
abbrev pub Shrinks : {V : Type 0} → (List ℕ → Option (V × List ℕ)) → Type 0
Shrinks {V} read = (octets : List ℕ) (v : V) (rest : List ℕ) → read octets ≡ Some (v, rest) → length rest < length octets
