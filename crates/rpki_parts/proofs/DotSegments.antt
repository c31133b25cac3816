-- A path without a segment that begins with a dot has no dot segments.
use Rattle.std.proofs.Common.{◌≡◌, ℕ, Bool, true, false, not, ◌&&◌, List, [], ◌∷◌, refl, cond, ◌==◌}
use Rattle.std.specs.List.{list_all, slice_split, onto_first}
use Rattle.rpki_parts.specs.Uris.Tests.{is_slash, is_segment}

-- no segment begins with a dot, in a text behind this octet
abbrev pub none_begins : ℕ → List ℕ → Bool
none_begins before [] = true
none_begins before (x ∷ xs) = not (is_slash before && (x == 46)) && none_begins x xs

abbrev begins_well : List ℕ → Bool
begins_well [] = true
begins_well (x ∷ xs) = not (x == 46)

not_true : (b : Bool) → not b ≡ true → b ≡ false
not_true true h = absurd cc
not_true false h = refl

segment_is : (s : List ℕ) → begins_well s ≡ true → is_segment s ≡ true
segment_is [] h = refl
segment_is (x ∷ xs) h =
    let e : (x == 46) ≡ false = not_true (x == 46) h in
    rw e refl

-- all segments but the first are none of these, and the first begins well behind a slash
abbrev Fine : Bool → List (List ℕ) → Type 0
Fine behind [] = Unit {0}
Fine behind (s ∷ ss) = (list_all is_segment ss ≡ true) × (behind ≡ true → begins_well s ≡ true)

all_are : (ss : List (List ℕ)) → Fine true ss → list_all is_segment ss ≡ true
all_are [] f = refl
all_are (s ∷ ss) f = rw (segment_is s (f.1 refl), f.0) refl

longer_is : (behind : Bool) (x : ℕ) (ss : List (List ℕ)) → (behind ≡ true → not (x == 46) ≡ true) → Fine false ss →
    Fine behind (onto_first x ss)
longer_is behind x [] h f = (refl, h)
longer_is behind x (s ∷ ss) h f = (f.0, h)

step_is : (behind slash : Bool) (x : ℕ) (ss : List (List ℕ)) → (behind ≡ true → not (x == 46) ≡ true) →
    Fine slash ss → Fine behind (cond slash ([] ∷ ss) (onto_first x ss))
step_is behind true x ss h f = (all_are ss f, λ _. refl)
step_is behind false x ss h f = longer_is behind x ss h f

both_true : (a b : Bool) → (a && b) ≡ true → (a ≡ true) × (b ≡ true)
both_true true b h = (refl, h)
both_true false b h = absurd cc

behind_is : (b d : Bool) → not (b && d) ≡ true → b ≡ true → not d ≡ true
behind_is true d h e = h
behind_is false d h e = absurd cc

split_is : (before : ℕ) (path : List ℕ) → none_begins before path ≡ true → Fine (is_slash before) (slice_split is_slash path)
split_is before [] h = (refl, λ _. refl)
split_is before (x ∷ xs) h =
    let parts = both_true (not (is_slash before && (x == 46))) (none_begins x xs) h in
    step_is (is_slash before) (is_slash x) x (slice_split is_slash xs) (behind_is (is_slash before) (x == 46) parts.0)
    (split_is x xs parts.1)

pub no_dots_from : (path : List ℕ) → none_begins 47 path ≡ true → list_all is_segment (slice_split is_slash path) ≡ true
no_dots_from path h = all_are (slice_split is_slash path) (split_is 47 path h)
