-- What the line program's input is read as, whole and in parts.
use Rattle.std.specs.Prelude.{◌≡◌, ◌≢◌, ◌⊎◌, ℕ, List, [], ◌∷◌, ◌++◌}
use Rattle.rpki_lines.specs.declared.lines.RevokedQuestion.{RevokedQuestion}
use Rattle.rpki_lines.specs.declared.path_lines.PathQuestion.{PathQuestion}
use Rattle.rpki_lines.specs.declared.path_lines.Member.{Member}
use Rattle.rpki_lines.specs.declared.path_lines.Member.TheVariants.{Authority, Last}
use Rattle.rpki_lines.specs.declared.input.Input.{Input}
use Rattle.rpki_lines.specs.declared.input.Input.TheVariants.{Revoked, Path, Bad}
use Rattle.rpki_lines.specs.InputLines.{InputLine, authority, end_entity}
use Rattle.rpki_lines.specs.TextLines.{line_end, IsWithout, AreTextLines}
use Rattle.rpki_lines.specs.Program.{Question, is_revoked, is_valid_path, Ask, IsBadLine}
use Rattle.rpki_lines.specs.Program as program

-- the first line of a text, and what follows its end
abbrev pub IsFirstLine : List ℕ → List ℕ → List ℕ → Type 0
IsFirstLine line rest text =
    IsWithout line_end line
    × (((rest ≡ []) × (line ≢ []) × (text ≡ line)) ⊎ (text ≡ line ++ line_end ∷ rest))

-- what the line of a member below the trust anchor tells
abbrev pub member_line : Member → InputLine
member_line (Authority octets) = authority octets
member_line (Last leaf) = end_entity leaf

-- what the lines of this question ask
abbrev pub revoked_question : RevokedQuestion → Question
revoked_question q = is_revoked q.list q.serial

-- what the lines of this question ask
abbrev pub path_question : PathQuestion → program.PathQuestion
path_question q = record { now = q.now; strict = q.strict; anchor_octets = q.anchor; authorities = q.cas.items; leaf = q.leaf }

-- what lines are read as
abbrev pub AreReadAs : Input → List (List ℕ) → Type 0
AreReadAs (Revoked q) lines = Ask (revoked_question q) lines
AreReadAs (Path q) lines = Ask (is_valid_path (path_question q)) lines
AreReadAs (Bad number) lines = IsBadLine number lines

-- what a text is read as, where these lines stand before its own
abbrev pub IsReadBehind : List (List ℕ) → List ℕ → Input → Type 0
IsReadBehind before text input = (lines : List (List ℕ)) × AreTextLines lines text × AreReadAs input (before ++ lines)

-- what a whole text is read as
abbrev pub IsInput : Input → List ℕ → Type 0
IsInput input text = IsReadBehind [] text input
