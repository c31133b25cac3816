-- The places of the files that certificates name.
use Rattle.std.specs.List.{AllZip}
use Rattle.std.specs.Slice.{IsItemAt}
use Rattle.std.specs.Prelude.{Option, None, Some, MatchOption, option_copied, slice_get, unwrap_or}
use Rattle.std.proofs.Common.{Bor, ◌≡◌, ◌++◌, ℕ, zero, suc, List, [], ◌∷◌, length, map, refl, sym}
use Rattle.std.proofs.lemmas.Option.{slice_get_past, slice_get_read}
use Rattle.rpki_files.specs.Files.{FileFields}
use Rattle.rpki_verdicts.specs.ShownPaths.{IsNamedIn, placed}

-- what is looked up in a list
pub looked_up : {X : Type 0} (xs : List X) (place : ℕ) (found : Option (Bor X)) → IsItemAt xs place found →
    option_copied found ≡ slice_get xs place
looked_up xs place None h = sym (slice_get_past xs place h.3)
looked_up xs place (Some x) h = sym (slice_get_read xs (length xs) place x.now refl h.3.0 h.1)

-- one more of each
pub zip_more : {A B : Type 0} (R : A → B → Type 0) (xs : List A) (ys : List B) (x : A) (y : B) → AllZip R xs ys →
    R x y → AllZip R (xs ++ x ∷ []) (ys ++ y ∷ [])
zip_more R [] [] x y zip one = (one, tt)
zip_more R [] (b ∷ ys) x y zip one = absurd zip
zip_more R (a ∷ xs) [] x y zip one = absurd zip
zip_more R (a ∷ xs) (b ∷ ys) x y zip one = (zip.0, zip_more R xs ys x y zip.1 one)

module _ (all : List FileFields) (root : List ℕ) where
  -- at each place
  pub names_by : (files : List (Bor FileFields)) (names : List (Option ℕ)) →
      AllZip (λ file named. IsNamedIn all file.now.octets named) files names → (place : ℕ) →
      MatchOption (slice_get (map (λ file. placed root file.now) files) place)
      (unwrap_or (slice_get names place) None ≡ None)
      (λ file. IsNamedIn all file.octets (unwrap_or (slice_get names place) None))
  names_by [] [] h place = refl
  names_by [] (n ∷ names) h place = absurd h
  names_by (f ∷ files) [] h place = absurd h
  names_by (f ∷ files) (n ∷ names) h zero = h.0
  names_by (f ∷ files) (n ∷ names) h (suc place) = names_by files names h.1 place
