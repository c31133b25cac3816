-- Strings that stand one behind the other, and what is kept of strings (own).
use Rattle.std.specs.Prelude.{◌≡◌, ◌⊎◌, ℕ, List, [], ◌∷◌, length, map}
use Rattle.std.specs.List.{concat}

-- the strings are the octets, cut into parts of these lengths
pub record AreCut (octets lengths : List ℕ) (strings : List (List ℕ)) : Type 0 where
  pub joined : concat strings ≡ octets
  pub lengths_are : map length strings ≡ lengths

-- these are what the strings are, in their order, but for strings that may be passed over
abbrev pub AreKeptAmong : {A : Type 0} → (List ℕ → Type 0) → (List ℕ → A → Type 0) → List (List ℕ) → List A
    → Type 0
AreKeptAmong {A} MayPass Is [] kept = kept ≡ []
AreKeptAmong {A} MayPass Is (octets ∷ strings) kept =
    (MayPass octets × AreKeptAmong MayPass Is strings kept)
    ⊎ ((x : A) × (others : List A) × (kept ≡ x ∷ others) × Is octets x × AreKeptAmong MayPass Is strings others)
