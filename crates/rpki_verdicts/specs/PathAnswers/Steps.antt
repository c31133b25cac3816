-- What one step of judging files gives.
use Rattle.std.specs.Prelude.{◌≡◌, ◌≤◌, ◌⊎◌, ℕ, Bool, List, [], ◌∷◌, ◌++◌, length}
use Rattle.rpki_path.specs.declared.judging.Judged.{Judged}
use Rattle.rpki_keys.specs.KeyForms.{IsUsableKey}
use Rattle.rpki_cert.specs.declared.inspect.Kind.{Kind}
use Rattle.rpki_cert.specs.declared.inspect.Kind.TheVariants.{Authority}
use Rattle.rpki_path.specs.GivenPaths.{PathStrings}
use Rattle.rpki_path.specs.Judging.{last_key}
use Rattle.rpki_verdicts.specs.Reasons.{key_reason}
use Rattle.rpki_verdicts.specs.PathFiles.{IsJudgedAs}
use Rattle.rpki_verdicts.specs.PathAnswers.{reason_of, AreChained, IsOtherName}
use Rattle.rpki_verdicts.specs.declared.path.Verdict.{Verdict}
use Rattle.rpki_verdicts.specs.declared.path.Verdict.TheVariants.{Accepted, Rejected}

-- as what the last of the files below the trust anchor's is judged; a CA where there is none
pub record IsKindOfLast (files : List (List ℕ)) (kind : Kind) : Type 0 where
  pub alone : length files ≤ 1 → kind ≡ Authority
  pub judged : (anchor : List ℕ) (cas : List (List ℕ)) (last : List ℕ)
      → files ≡ anchor ∷ (cas ++ last ∷ []) → IsJudgedAs kind last

-- what the last key makes of a valid path, whose last member stands at this place
abbrev pub IsKeyVerdict : Judged → ℕ → Verdict → Type 0
IsKeyVerdict judged place (Accepted j) = (j ≡ judged) × IsUsableKey (last_key judged)
IsKeyVerdict judged place (Rejected fault) =
    (IsUsableKey (last_key judged) → ⊥) × (fault.index ≡ place)
    × (reason_of fault ≡ key_reason (last_key judged).format)

-- what names and the last key make of a valid path, whose last member stands at this place
abbrev pub IsNamedVerdict : PathStrings → Bool → Judged → ℕ → Verdict → Type 0
IsNamedVerdict g names judged place (Accepted j) =
    AreChained names g × IsKeyVerdict judged place (Accepted j)
IsNamedVerdict g names judged place (Rejected fault) =
    IsOtherName g names fault ⊎ (AreChained names g × IsKeyVerdict judged place (Rejected fault))
