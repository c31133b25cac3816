-- Values without floats.
use Rattle.std.specs.List.{AllByRecursion}
use Rattle.std.specs.Prelude.{map}
use Rattle.std.proofs.Common.{◌≡◌, ◌<◌, ◌||◌, ℕ, zero, suc, List, [], ◌∷◌, Bool, false, length, get_or, refl, sym, subst, arith}
use Rattle.serde_json.specs.Data.{Data}
use Rattle.serde_json.specs.View.{items_of, view}
use Rattle.serde_json.specs.Written.{has_float, items_have_float}
use Rattle.serde_json.specs.declared.value.Value.{Value}
use Rattle.rpki_document.specs.Documents.{array_of}

-- a value has no float
abbrev pub IsWhole : Data → Type 0
IsWhole d = has_float d ≡ false

either_whole : (b c : Bool) → b ≡ false → c ≡ false → (b || c) ≡ false
either_whole b c p q = cc

items_whole : (ds : List Data) → AllByRecursion IsWhole ds → items_have_float (items_of ds) ≡ false
items_whole [] are = refl
items_whole (d ∷ ds) are = either_whole (has_float d) _ are.0 (items_whole ds are.1)

-- a list of such values
pub array_whole : (ds : List Data) → AllByRecursion IsWhole ds → IsWhole (array_of ds)
array_whole ds are = items_whole ds are

-- ---- values in Rust

-- of values, each of which has none
pub viewed_whole : (vs : List Value) → AllByRecursion (λ v. IsWhole (view v)) vs → AllByRecursion IsWhole (map view vs)
viewed_whole [] are = tt
viewed_whole (v ∷ vs) are = (are.0, viewed_whole vs are.1)

-- and the other way round
pub unviewed_whole : (vs : List Value) → AllByRecursion IsWhole (map view vs) → AllByRecursion (λ v. IsWhole (view v)) vs
unviewed_whole [] are = tt
unviewed_whole (v ∷ vs) are = (are.0, unviewed_whole vs are.1)

nth_whole : (vs : List Value) (i : ℕ) (v : Value) → i < length vs → AllByRecursion (λ v. IsWhole (view v)) vs →
    IsWhole (view (get_or vs i v))
nth_whole [] i v low are = absurd (omega arith)
nth_whole (w ∷ vs) zero v low are = are.0
nth_whole (w ∷ vs) (suc i) v low are = let less : i < length vs = omega arith in nth_whole vs i v less are.1

-- the value at a place
pub whole_at : (vs : List Value) (i : ℕ) (v : Value) → i < length vs → v ≡ get_or vs i v →
    AllByRecursion (λ v. IsWhole (view v)) vs → IsWhole (view v)
whole_at vs i v low there are = let P : Value → Type 0 = λ w. IsWhole (view w) in subst P (sym there) (nth_whole vs i v low are)
