-- What the steps give by which strings are judged.
use Rattle.std.specs.Prelude.{ℕ, List, [], ◌∷◌}
use Rattle.rpki_path.specs.declared.located.LocatedError.TheVariants.{OtherKey, NoResources, Path as path}
use Rattle.rpki_folder.specs.declared.anchors.WrongCandidate.{WrongCandidate}
use Rattle.rpki_folder.specs.declared.walk_error.WalkError.{WalkError}
use Rattle.rpki_folder.specs.declared.walk_error.WalkError.TheVariants.{Anchor, OtherName, Memory}
use Rattle.rpki_c.specs.FolderFates.{origin_of}
use Rattle.rpki_c.specs.declared.refusal.Refusal.{Refusal}
use Rattle.rpki_c.specs.declared.refusal.Refusal.TheVariants as refusal
use Rattle.rpki_c.specs.declared.sorting.Sorted.{Sorted}

-- why there was no walk below the trust anchor at a place
abbrev pub refusal_of : ℕ → WalkError → Refusal
refusal_of place Memory = refusal.Memory
refusal_of place OtherName = refusal.OtherName place
refusal_of place (Anchor OtherKey) = refusal.OtherKey
refusal_of place (Anchor NoResources) = refusal.NoResources place
refusal_of place (Anchor (path e)) = refusal.Member (record { index = place; fault = e.fault })

-- why there was none, where none of these is valid
abbrev pub wrong_first : Sorted → List WrongCandidate → Refusal
wrong_first s [] = refusal.OtherKey
wrong_first s (w ∷ more) = refusal_of (origin_of s w.place) w.error
