-- The reading function of what a certificate is built of.
use Rattle.std.specs.Prelude.{ℕ, List, [], ◌∷◌, Option, Some, None}
use Rattle.rpki_der.specs.Tags.{CONTEXT_CONSTRUCTED, SEQUENCE}
use Rattle.rpki_der.specs.Values.Reading.{◌>>=◌, value_at}
use Rattle.rpki_der.specs.Sequences.Reading.{sequence_of}
use Rattle.rpki_der.specs.Skipping.Reading.{captured_at}

-- what stands before the last, and the last
abbrev pub with_front : {X : Type 0} → X → Option (List X × X) → List X × X
with_front x None = ([], x)
with_front x (Some (front, last)) = (x ∷ front, last)

-- a list without its last element, and this element; nothing of an empty list
abbrev pub split_last : {X : Type 0} → List X → Option (List X × X)
split_last [] = None
split_last (x ∷ xs) = Some (with_front x (split_last xs))

-- the values that stand inside the two tags of extensions
unfoldable pub sequence_in : List ℕ → Option (List (List ℕ))
sequence_in value = do
  tagged ← value_at (CONTEXT_CONSTRUCTED 3) value
  elements ← value_at SEQUENCE tagged.0
  sequence_of captured_at elements.0

-- the values before the extensions, the extensions, and what stands behind the TBSCertificate
unfoldable pub frame_at : List ℕ → Option (List (List ℕ) × (List (List ℕ) × List ℕ))
frame_at octets = do
  whole ← value_at SEQUENCE octets
  tbs ← value_at SEQUENCE whole.0
  values ← sequence_of captured_at tbs.0
  split ← split_last values
  elements ← sequence_in split.1
  Some (split.0, (elements, tbs.1))
