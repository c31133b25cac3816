-- A value that is encoded at the front of octets.
use Rattle.std.specs.Prelude.{◌≡◌, ℕ, List, ◌++◌, [], ◌∷◌}

-- a front of the octets encodes the value, and the rest follows
pub record Begins {V : Type 0} (encodes : V → List ℕ → Type 0) (octets : List ℕ) (v : V) (rest : List ℕ) : Type 0 where
  pub text : List ℕ
  pub encoded : encodes v text
  pub parts : octets ≡ text ++ rest

-- some front of the octets encodes the value
abbrev pub Means : {V : Type 0} → (V → List ℕ → Type 0) → V → List ℕ → Type 0
Means encodes v octets = (rest : List ℕ) × Begins encodes octets v rest

-- the octets don't begin with this tag
abbrev pub BeginsOther : ℕ → List ℕ → Type 0
BeginsOther tag [] = Unit {0}
BeginsOther tag (b ∷ bytes) = b ≡ tag → ⊥

-- A front of the octets encodes the value, and the rest follows. The front may be empty only at the
-- end, or before another identifier than this tag.
pub record BeginsOrAbsent {V : Type 0} (tag : ℕ) (encodes : V → List ℕ → Type 0) (octets : List ℕ) (v : V) (rest : List ℕ) : Type 0 where
  pub text : List ℕ
  pub encoded : encodes v text
  pub parts : octets ≡ text ++ rest
  pub absent : text ≡ [] → BeginsOther tag octets
