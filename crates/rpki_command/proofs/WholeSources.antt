-- What is read of a source to its end.
use Rattle.std.specs.Prelude.{Option, Some, None, IfSome}
use Rattle.std.specs.Option.{option_map}
use Rattle.std.proofs.Common.{◌≡◌, ◌∙◌, ◌++◌, ◌<◌, ℕ, List, [], ap, arith, length, take}
use Rattle.std.proofs.lemmas.Grind.{common_steps}

-- is all of it, where less is read than may be taken
pub whole_read : (left : Option (List ℕ)) (limit : ℕ) (old new : List ℕ) →
    IfSome (option_map (take limit) left) (λ xs. new ≡ old ++ xs) → old ≡ [] → length new < limit →
    IfSome left (λ all. new ≡ all)
whole_read None limit old new read none short = tt
whole_read (Some all) limit old new read none short =
    let taken : new ≡ take limit all = read ∙ ap (λ (l : List ℕ). l ++ take limit all) none in
    taken ∙ grind (arith, common_steps)
