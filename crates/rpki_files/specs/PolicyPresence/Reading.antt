-- The reading function of where a certificate's extensions stand.
use Rattle.std.specs.Prelude.{ℕ, List, [], ◌∷◌, Option, Some}
use Rattle.rpki_der.specs.Reading.{inside}
use Rattle.rpki_der.specs.Tags.{SEQUENCE}
use Rattle.rpki_der.specs.Values.Reading.{◌>>=◌, value_at}
use Rattle.rpki_files.specs.PolicyPresence.{tags_before}

-- what stands behind values with these identifier octets
abbrev pub behind : List ℕ → List ℕ → Option (List ℕ)
behind [] octets = Some octets
behind (tag ∷ tags) octets = value_at tag octets >>= λ v. behind tags v.1

-- what stands behind a certificate's fields before its extensions
unfoldable pub rest_at : List ℕ → Option (List ℕ)
rest_at octets = behind tags_before octets

-- what stands where the extensions of a certificate do
unfoldable pub extensions_at : List ℕ → Option (List ℕ)
extensions_at octets = do
  whole ← value_at SEQUENCE octets
  signed ← value_at SEQUENCE whole.0
  rest ← rest_at signed.0
  elements ← inside 0xA3 (value_at SEQUENCE) rest
  Some elements.0
