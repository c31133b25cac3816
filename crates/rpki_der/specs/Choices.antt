-- Readings that choose by what stands next or by a test, that depend on what stood before, and that
-- turn what they read.
use Rattle.std.specs.Prelude.{◌≡◌, ℕ, bytes_eq, nat_eq, if◌then◌else◌, List, [], ◌∷◌, ◌++◌, Option, Some, None, ◌⊎◌}
use Rattle.rpki_der.specs.Reading.{at_end, optional}
use Rattle.rpki_der.specs.Values.Reading.{value_at, ◌>>=◌}

-- ---- a value of one of two forms, which its first octet tells

-- what begins with this tag is read by the first, all else by the second
abbrev pub choice : {X : Type 0} → ℕ → (List ℕ → Option X) → (List ℕ → Option X) → List ℕ → Option X
choice t first second [] = second []
choice t first second (found ∷ bytes) = if nat_eq found t then first (found ∷ bytes) else second (found ∷ bytes)

-- it is encoded in one of the forms
abbrev pub Either : {V : Type 0} → (V → List ℕ → Type 0) → (V → List ℕ → Type 0) → V → List ℕ → Type 0
Either first second v text = first v text ⊎ second v text

-- what a whole content gives, or nothing before another tag
abbrev pub maybe : {X : Type 0} → (List ℕ → Option X) → Option (List ℕ) → List ℕ → Option (Option X × List ℕ)
maybe of (Some c) rest = of c >>= λ x. Some (Some x, rest)
maybe of None rest = Some (None, rest)

-- reads a whole content behind this tag, or nothing before another tag
abbrev pub optional_of : {X : Type 0} → ℕ → (List ℕ → Option X) → List ℕ → Option (Option X × List ℕ)
optional_of tag of bytes = do
  c ← optional tag (value_at tag) bytes
  maybe of c.0 c.1

-- ---- a test chooses

-- these octets, and no others
abbrev pub exactly : List ℕ → List ℕ → Option (Unit {0})
exactly wanted octets = if bytes_eq octets wanted then Some tt else None

-- ---- what was read decides

-- what a function makes of the value, if it makes anything
abbrev pub conversion : {X Y : Type 0} → (X → Option Y) → (List ℕ → Option (X × List ℕ)) → List ℕ → Option (Y × List ℕ)
conversion f read bytes = do
  x ← read bytes
  y ← f x.0
  Some (y, x.1)

-- what a function makes of a value that is encoded so
abbrev pub IsConversion : {X Y : Type 0} → (X → Option Y) → (X → List ℕ → Type 0) → Y → List ℕ → Type 0
IsConversion {X} f encodes y text = (x : X) × encodes x text × (f x ≡ Some y)

-- one value, and then one that depends on it
abbrev pub and_then : {X Y : Type 0} → (List ℕ → Option (X × List ℕ)) → (X → List ℕ → Option (Y × List ℕ)) → List ℕ → Option (Y × List ℕ)
and_then first second bytes = do
  x ← first bytes
  second x.0 x.1

-- one value, and then one whose format depends on it
abbrev pub AndThen : {X Y : Type 0} → (X → List ℕ → Type 0) → (X → Y → List ℕ → Type 0) → Y → List ℕ → Type 0
AndThen {X} first second y text = (x : X) × (a : List ℕ) × (b : List ℕ) × first x a × second x y b × (text ≡ a ++ b)

-- the octets are one value, and nothing follows it
abbrev pub whole : {X : Type 0} → (List ℕ → Option (X × List ℕ)) → List ℕ → Option X
whole read bytes = do
  x ← read bytes
  at_end x.1 x.0
