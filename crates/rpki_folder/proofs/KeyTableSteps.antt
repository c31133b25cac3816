-- One place more in a table of places by key.
use Rattle.std.specs.Prelude.{Bool, true, false, Option, Some, cond, bytes_eq, if◌then◌else◌, unwrap_or, option_map}
use Rattle.std.specs.BTreeMap.{BTreeMap, get, is_at}
use Rattle.std.specs.Cmp.Lexicographic.{slice_cmp}
use Rattle.std.specs.Ordering.{nat_cmp}
use Rattle.std.specs.Global.{Vec}
use Rattle.std.proofs.Common.{◌≡◌, ℕ, List, [], ◌∷◌, ◌++◌, Result, Ok, Err, OnErr, refl, ap, subst, ◌∙◌}
use Rattle.std.proofs.lemmas.Map.Text.{is_eq-slice_cmp}
use Rattle.std.proofs.lemmas.Slice.Eq.{bytes_eq-Decides}
use Rattle.rpki_folder.specs.KeyTables.{places_in, with_place}

-- the places that a value lists
abbrev pub listed : Option (Vec ℕ) → List ℕ
listed o = unwrap_or (option_map (λ v. v.items) o) []

chosen : (b : Bool) (old new : Option (Vec ℕ)) (w : Vec ℕ) (place : ℕ) → new ≡ cond b (Some w) old →
    (b ≡ true → w.items ≡ listed old ++ place ∷ []) →
    listed new ≡ (if b then listed old ++ place ∷ [] else listed old)
chosen true old new w place is items = ap listed is ∙ items refl
chosen false old new w place is items = ap listed is

kept : (b : Bool) (old new : Option (Vec ℕ)) (w : Vec ℕ) → new ≡ cond b (Some w) old →
    (b ≡ true → w.items ≡ listed old) → listed new ≡ listed old
kept true old new w is items = ap listed is ∙ items refl
kept false old new w is items = ap listed is

-- what holds whatever was answered
pub on_err : {P T E : Type 0} (r : Result T E) → P → OnErr r P
on_err (Ok x) p = tt
on_err (Err e) p = p

module _ (m n : BTreeMap (List ℕ) (Vec ℕ)) (key : List ℕ) where
  -- the key has this value, and each other one what it had
  abbrev pub Sets : Vec ℕ → Type 0
  Sets w = (q : List ℕ) →
      get (slice_cmp nat_cmp) n q ≡ cond (is_at (slice_cmp nat_cmp key) q) (Some w) (get (slice_cmp nat_cmp) m q)

  set_at : (w : Vec ℕ) → Sets w → (k : List ℕ) →
      get (slice_cmp nat_cmp) n k ≡ cond (bytes_eq key k) (Some w) (get (slice_cmp nat_cmp) m k)
  set_at w sets k = sets k ∙ ap (λ (b : Bool). cond b (Some w) (get (slice_cmp nat_cmp) m k)) (is_eq-slice_cmp key k)

  -- one place more
  pub place_added : (w : Vec ℕ) (place : ℕ) → Sets w → w.items ≡ places_in m key ++ place ∷ [] → (k : List ℕ) →
      places_in n k ≡ with_place key place k (places_in m k)
  place_added w place sets items k =
      chosen (bytes_eq key k) (get (slice_cmp nat_cmp) m k) (get (slice_cmp nat_cmp) n k) w place (set_at w sets k)
      (λ same. subst (λ (q : List ℕ). w.items ≡ places_in m q ++ place ∷ []) ((bytes_eq-Decides key k).0 same) items)

  -- the same places
  pub place_kept : (w : Vec ℕ) → Sets w → w.items ≡ places_in m key → (k : List ℕ) → places_in n k ≡ places_in m k
  place_kept w sets items k =
      kept (bytes_eq key k) (get (slice_cmp nat_cmp) m k) (get (slice_cmp nat_cmp) n k) w (set_at w sets k)
      (λ same. subst (λ (q : List ℕ). w.items ≡ places_in m q) ((bytes_eq-Decides key k).0 same) items)
