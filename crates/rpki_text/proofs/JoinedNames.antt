-- The name that a word joins to a value by `=`.
use Rattle.std.specs.List.{before_first, position_or_len}
use Rattle.std.specs.Prelude.{codes, Option, Some, None, cond, nat_lt, position}
use Rattle.std.proofs.Common.{◌≡◌, ◌==◌, ℕ, Bool, true, false, List, ◌++◌, length, take, sym, ap, ◌∙◌}
use Rattle.rpki_text.specs.WordParts.{Joins}

-- the character `=`
abbrev pub is_equals : ℕ → Bool
is_equals c = c == 0x3D

place_is : (b : Bool) (n place : ℕ) → cond b (Some n) None ≡ Some place → n ≡ place
place_is true n place is = cc
place_is false n place is = cc

-- it stands before the first `=`, where no name has one
pub name_before : {S : Type 0} (name : S → List ℕ) →
    ((s : S) (value : List ℕ) → before_first is_equals (name s ++ codes "=" ++ value) ≡ name s)
    → (word : List ℕ) (place : ℕ) (found : Option ℕ) → found ≡ position is_equals word → found ≡ Some place
    → (s : S) (value : List ℕ) → Joins (name s) value word → take place word ≡ name s
name_before name front_is word place found is some s value joins =
    let same : position_or_len is_equals word ≡ place =
    place_is (nat_lt (position_or_len is_equals word) (length word)) (position_or_len is_equals word) place
    (sym is ∙ some) in
    ap (λ (n : ℕ). take n word) (sym same) ∙ ap (before_first is_equals) joins ∙ front_is s value
