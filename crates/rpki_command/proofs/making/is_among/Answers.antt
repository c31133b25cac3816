use Rattle.std.specs.List.{list_any}
use Rattle.std.specs.Prelude.{Bool, ◌||◌, bytes_eq}
use Rattle.std.proofs.Common.{◌≡◌, ◌∙◌, ℕ, List, [], ◌∷◌, map, refl, sym, ap}
use Rattle.rpki_command.proofs.making.is_among.Goals as goal

any_mapped : {X Y : Type 0} (p : Y → Bool) (f : X → Y) (xs : List X) → list_any p (map f xs) ≡ list_any (λ x. p (f x)) xs
any_mapped p f [] = refl
any_mapped p f (x ∷ xs) = ap (λ (b : Bool). p (f x) || b) (any_mapped p f xs)

pub returns : goal.returns
returns c = c.is_one_of.ensures ∙ sym (any_mapped (λ (other : List ℕ). bytes_eq other c.args.name.now) (λ r. r.now) c.args.names.now)
