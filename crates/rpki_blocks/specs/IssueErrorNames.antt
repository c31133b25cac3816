-- The names of the errors.
use Rattle.std.specs.Prelude.{ℕ, List, codes}
use Rattle.rpki_blocks.specs.declared.resources.IssueError.{IssueError}
use Rattle.rpki_blocks.specs.declared.resources.IssueError.TheVariants.{Overclaimed, Memory}

-- the name of the error
abbrev pub issue_error_name : IssueError → List ℕ
issue_error_name Overclaimed = codes "Overclaimed"
issue_error_name Memory = codes "Memory"
