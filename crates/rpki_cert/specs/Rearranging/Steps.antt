-- Steps of making a sequence of extensions: what is gathered for each place, and how it is put
-- together.
use Rattle.std.specs.Prelude.{ℕ, List, [], ◌∷◌, ◌++◌, ◌≡◌, ◌^◌, ◌<◌, ◌≤◌, ◌⊎◌, length, get_or}
use Rattle.std.specs.List.{concat}
use Rattle.rpki_cert.specs.Rearranging.{added_at, written}
use Rattle.rpki_cert.specs.declared.extra.Extra.{Extra}

-- the octets at each place below count are those of what is added there
abbrev pub HaveAdded : ℕ → List Extra → List (List ℕ) → Type 0
HaveAdded count extras places = (place : ℕ) → place < count → get_or places place [] ≡ concat (added_at place extras)

-- one of them alone is too long
abbrev pub HasLong : List Extra → Type 0
HasLong [] = ⊥
HasLong (x ∷ extras) = (2 ^ 32 ≤ length (written x)) ⊎ HasLong extras

-- the octets of each place, before the old extension that the order names there; at the end those
-- of the place behind the last
abbrev pub joined : List ℕ → List (List ℕ) → List (List ℕ) → List ℕ
joined order [] old = []
joined [] (added ∷ places) old = added
joined (named ∷ order) (added ∷ places) old = added ++ (get_or old named [] ++ joined order places old)
