-- What a writer has taken, and which files were made.
use Rattle.std.specs.Prelude.{◌⊎◌, Option, Some, None, IsSome}
use Rattle.std.specs.Io.KnownBytes.{Appends}
use Rattle.std.proofs.Common.{◌≡◌, ◌∙◌, ◌++◌, ℕ, List, [], ap, drop, inl, inr, sym, append_assoc, take, take-append-drop}
use Rattle.std.proofs.lemmas.List.{append-nil}
use Rattle.rpki_lines.specs.Watching.{HasFailed, device}
use Rattle.rpki_lines.specs.declared.watched.Watched.{Watched}
use Rattle.rpki_command.specs.Failures.{EndsInFailure, TellsFailure, failure_message}
use Rattle.rpki_command.specs.Outputs.{MadeFile, Makes}

-- nothing
pub appends_none : (held : Option (List ℕ)) → Appends held held []
appends_none None = tt
appends_none (Some text) = sym (append-nil text)

-- one text after the other
pub appends_both : (before between after : Option (List ℕ)) (first second : List ℕ) → Appends before between first →
    Appends between after second → Appends before after (first ++ second)
appends_both None between after first second p q = tt
appends_both (Some a) None after first second p q = absurd p
appends_both (Some a) (Some b) None first second p q = absurd q
appends_both (Some a) (Some b) (Some c) first second p q = q ∙ ap (λ (l : List ℕ). l ++ second) p ∙ append_assoc a first second

-- no file
pub makes_none : (made : Option (List MadeFile)) → Makes made made []
makes_none None = tt
makes_none (Some files) = sym (append-nil files)

-- a further part of what is to be written
pub parts_more : (whole front rest : List ℕ) (n : ℕ) → whole ≡ front ++ rest → whole ≡ (front ++ take n rest) ++ drop n rest
parts_more whole front rest n e = e ∙ ap (λ (l : List ℕ). front ++ l) (sym (take-append-drop n rest)) ∙
    sym (append_assoc front (take n rest) (drop n rest))

-- what ends in a failure, where it is known what was written before
pub ends_in_failure : (before after : Option (List ℕ)) (why : List ℕ) → IsSome before →
    Appends before after (failure_message why) → EndsInFailure after
ends_in_failure None after why known p = absurd cc
ends_in_failure (Some held) None why known p = absurd p
ends_in_failure (Some held) (Some text) why known p = (held, why, ap (λ (l : List ℕ). Some l) p)

-- what failed was said, unless the output has failed
pub tells_failure : {W : Type 0} (contents : W → Option (List ℕ)) (before after : Watched W) (why : List ℕ) →
    HasFailed after ⊎ Appends (contents (device before)) (contents (device after)) (failure_message why) →
    TellsFailure contents after
tells_failure contents before after why (inl failed) = inl failed
tells_failure contents before after why (inr told) =
    inr (λ known. ends_in_failure (contents (device before)) (contents (device after)) why (known (device before))
    told)
