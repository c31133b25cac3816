-- The first of a list of which something holds.
use Rattle.std.specs.Prelude.{option_map}
use Rattle.std.proofs.Common.{List, [], ◌∷◌, ◌++◌, inl, inr, map, Option, Some, None, refl, ap}
use Rattle.rpki_files.specs.Flaws.{IsFirstTrue}

-- it holds of none
pub none_true : {X : Type 0} (P : X → Type 0) (xs : List X) → ((x : X) → P x → ⊥) → IsFirstTrue P xs None
none_true P [] fails = refl
none_true P (x ∷ xs) fails = inr (fails x, none_true P xs fails)

-- another property that holds of the images of the same ones
pub first_image : {X Y : Type 0} (P : X → Type 0) (Q : Y → Type 0) (g : X → Y) (xs : List X) (o : Option X)
    → ((x : X) → P x → Q (g x)) → ((x : X) → Q (g x) → P x) → IsFirstTrue P xs o → IsFirstTrue Q (map g xs) (option_map g o)
first_image P Q g [] o there back is = ap (option_map g) is
first_image P Q g (x ∷ xs) o there back (inl (p, same)) = inl (there x p, ap (option_map g) same)
first_image P Q g (x ∷ xs) o there back (inr (fails, rest)) = inr (λ q. fails (back x q), first_image P Q g xs o there back rest)

-- another property that holds of the same ones
pub first_so : {X : Type 0} (P Q : X → Type 0) (xs : List X) (o : Option X)
    → ((x : X) → P x → Q x) → ((x : X) → Q x → P x) → IsFirstTrue P xs o → IsFirstTrue Q xs o
first_so P Q [] o there back is = is
first_so P Q (x ∷ xs) o there back (inl (p, same)) = inl (there x p, same)
first_so P Q (x ∷ xs) o there back (inr (fails, rest)) = inr (λ q. fails (back x q), first_so P Q xs o there back rest)

-- one stands in the front of a list
pub first_in_front : {X : Type 0} (P : X → Type 0) (xs ys : List X) (x : X) → IsFirstTrue P xs (Some x) → IsFirstTrue P (xs ++ ys) (Some x)
first_in_front P [] ys x is = absurd cc
first_in_front P (y ∷ xs) ys x (inl here) = inl here
first_in_front P (y ∷ xs) ys x (inr (fails, rest)) = inr (fails, first_in_front P xs ys x rest)

-- none does
pub first_behind : {X : Type 0} (P : X → Type 0) (xs ys : List X) (o : Option X) → IsFirstTrue P xs None →
    IsFirstTrue P ys o → IsFirstTrue P (xs ++ ys) o
first_behind P [] ys o none is = is
first_behind P (x ∷ xs) ys o (inl (p, same)) is = absurd cc
first_behind P (x ∷ xs) ys o (inr (fails, rest)) is = inr (fails, first_behind P xs ys o rest is)
