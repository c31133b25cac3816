-- The lines that are kept of the verdicts on the certificates of a folder (own).
use Rattle.std.specs.Prelude.{◌≡◌, ◌⊎◌, ◌+◌, ◌-◌, ◌^◌, ◌<◌, ◌≤◌, ℕ, Bool, false, List, [], ◌∷◌, ◌++◌, length, Any}
use Rattle.std.specs.Prelude.{Ok, Err, IsOk, min, slice_index_or}
use Rattle.std.specs.List.{AllByRecursion, list_any}
use Rattle.std.specs.Str.{bytes_eq}
use Rattle.rpki_folder.specs.Walks.{Told}
use Rattle.rpki_folder.specs.declared.find.FoundPath.{FoundPath}
use Rattle.rpki_folder.specs.declared.lines.AcceptedPaths.{AcceptedPaths}
use Rattle.rpki_folder.specs.declared.lines.Line.{Line}
use Rattle.rpki_folder.specs.declared.lines.Line.TheVariants.{Unseen, Accepted, Rejected}

-- at which step the certificate of a verdict stands, counted from the trust anchor's 0
abbrev pub step : Told → ℕ
step t = length t.above + 1

-- the certificate at the place was rejected by a verdict, at a step of at most n
abbrev pub IsRejectedWithin : ℕ → ℕ → Told → Type 0
IsRejectedWithin place n t = t.place ≡ place → (IsOk t.verdict → ⊥) × (step t ≤ n)

-- the verdict accepts the certificate at the place by this path, with what it holds there
abbrev pub IsBy : ℕ → FoundPath → Told → Type 0
IsBy place path t = (t.above ≡ path.above.items) × (t.place ≡ place) × (t.verdict ≡ Ok path.judged)

-- among what was told the certificate at the place was accepted by this path
abbrev pub IsToldBy : List Told → ℕ → FoundPath → Type 0
IsToldBy ts place path = Any (IsBy place path) ts

-- ---- several paths

-- one of the paths leads down by the CAs at these places
abbrev pub has_path : List FoundPath → List ℕ → Bool
has_path paths above = list_any (λ path. bytes_eq path.above.items above) paths

-- the verdict accepts the certificate at the place, by a path that is none of these
abbrev pub IsFurther : ℕ → List FoundPath → Told → Type 0
IsFurther place paths t = (t.place ≡ place) × IsOk t.verdict × (has_path paths t.above ≡ false)

-- how many paths a line keeps at most
abbrev pub most_paths : ℕ
most_paths = 8

-- the paths that are kept of verdicts, where these are kept of those before: each path once, in the
-- order in which they were told, until the line is full; and how many verdicts are by other paths
abbrev pub AreFurther : ℕ → List FoundPath → List Told → List FoundPath → ℕ → Type 0
AreFurther place before [] paths more = (paths ≡ []) × (more ≡ 0)
AreFurther place before (t ∷ ts) paths more =
    ((IsFurther place before t → ⊥) × AreFurther place before ts paths more)
    ⊎ (((path : FoundPath) × (rest : List FoundPath) × IsFurther place before t × IsBy place path t
    × (length before < most_paths) × AreFurther place (before ++ path ∷ []) ts rest more
    × (paths ≡ path ∷ rest))
    ⊎ ((n : ℕ) × IsFurther place before t × (most_paths ≤ length before)
    × AreFurther place before ts paths n × (more ≡ n + 1)))

-- the paths that are kept, the first that was told in front
abbrev pub paths_in : AcceptedPaths → List FoundPath
paths_in paths = paths.first ∷ paths.others.items

-- these are the paths that are kept of all verdicts; the others are counted as far as a usize goes
abbrev pub ArePaths : List Told → ℕ → AcceptedPaths → Type 0
ArePaths ts place paths =
    (n : ℕ) × AreFurther place [] ts (paths_in paths) n × (paths.more ≡ min n (2 ^ 64 - 1))

-- ---- lines

-- the line of a place: there was no verdict on it; or one that accepted it, and these are the paths
-- of such; or only such that rejected it, and this fault is one of the highest step
abbrev pub IsLine : List Told → ℕ → Line → Type 0
IsLine ts place Unseen = AllByRecursion (λ t. t.place ≡ place → ⊥) ts
IsLine ts place (Accepted paths) = ArePaths ts place paths
IsLine ts place (Rejected n fault) =
    Any (λ t. (t.place ≡ place) × (step t ≡ n) × (t.verdict ≡ Err fault)) ts
    × AllByRecursion (IsRejectedWithin place n) ts

-- each place has its line
abbrev pub AreLines : List Told → List Line → Type 0
AreLines ts lines =
    (place : ℕ) (d : Line) → place < length lines → IsLine ts place (slice_index_or lines place d)

-- lines of which nothing was told are these, once these verdicts were told
abbrev pub BecameLines : List Line → List Told → List Line → Type 0
BecameLines lines ts later = (length later ≡ length lines) × (AreLines [] lines → AreLines ts later)

-- the line isn't replaced where the certificate is rejected at this step
abbrev pub Stays : ℕ → Line → Type 0
Stays n Unseen = ⊥
Stays n (Accepted paths) = Unit {0}
Stays n (Rejected m fault) = n ≤ m
