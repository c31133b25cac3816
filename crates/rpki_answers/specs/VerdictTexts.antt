-- What is found of a path, and what is said of files.
use Rattle.std.specs.Option.{option_map}
use Rattle.std.specs.Prelude.{◌≡◌, ℕ, All, List, [], ◌∷◌, ◌++◌, length, slice_get, Option, Some, None, MatchOption}
use Rattle.rpki_der.specs.Encoding.{Begins, Means}
use Rattle.rpki_cert.specs.Verification.{Context}
use Rattle.rpki_files.specs.Contents.{IsList}
use Rattle.rpki_files.specs.Files.{FileFields, contents}
use Rattle.rpki_files.specs.LocatorFiles.{AreLocator}
use Rattle.rpki_verdicts.specs.GivenLocators.{locator_octets}
use Rattle.rpki_verdicts.specs.PathFiles.{QuestionFields, demands_of}
use Rattle.rpki_verdicts.specs.PathAnswers.{IsAcceptance, IsNoLocator, IsVerdictBy}
use Rattle.rpki_answers.specs.declared.verdicts.Finding.{Finding}
use Rattle.rpki_answers.specs.declared.verdicts.Finding.TheVariants.{NotALocator, NotAList, Decided}
use Rattle.rpki_verdicts.specs.declared.path.Verdict.{Verdict}

-- what is said of each file, one after the other
abbrev pub SaysOfEach : {X : Type 0} → (FileFields → List X → Type 0) → List FileFields → List X → Type 0
SaysOfEach Says [] said = said ≡ []
SaysOfEach {X} Says (file ∷ files) said =
    (first : List X) × (more : List X) × Says file first × SaysOfEach Says files more × (said ≡ first ++ more)

-- so many octets stand behind the value that the octets begin with; or they begin with none
abbrev pub Leaves : {V : Type 0} → (V → List ℕ → Type 0) → List ℕ → Option ℕ → Type 0
Leaves {V} encodes octets (Some left) = (v : V) × (rest : List ℕ) × Begins encodes octets v rest × (left ≡ length rest)
Leaves {V} encodes octets None = (v : V) → Means encodes v octets → ⊥

-- the name of the member at this place, where there is a member
abbrev pub file_name_at : List FileFields → ℕ → Option (List ℕ)
file_name_at members place = option_map (λ file. file.name) (slice_get members place)

-- the verdict on the path, which there is where there is a file
abbrev pub IsDecision : Context → QuestionFields → Option Verdict → Type 0
IsDecision x question verdict =
    MatchOption verdict (contents question.members ≡ [])
    (IsVerdictBy x (demands_of question) (contents question.members) (contents question.lists))

-- what is found of a path: where a file given as a locator or as a list is none, that alone; else
-- the verdict
abbrev pub IsFinding : Context → QuestionFields → Finding → Type 0
IsFinding x question (NotALocator fault) = IsNoLocator x.strict (locator_octets question.locators) fault
IsFinding x question NotAList =
    All (AreLocator x.strict) (locator_octets question.locators) × (All IsList (contents question.lists) → ⊥)
IsFinding x question (Decided verdict) =
    (All (AreLocator x.strict) (locator_octets question.locators) × All IsList (contents question.lists))
    × IsDecision x question verdict

-- the path is accepted
abbrev pub IsAcceptedFinding : Finding → Type 0
IsAcceptedFinding (NotALocator fault) = ⊥
IsAcceptedFinding NotAList = ⊥
IsAcceptedFinding (Decided verdict) = IsAcceptance verdict
