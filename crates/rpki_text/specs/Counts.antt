-- Numbers with the name of what is counted.
use Rattle.std.specs.Fmt.{decimal}
use Rattle.std.specs.Prelude.{ℕ, ◌==◌, if◌then◌else◌, List, ◌++◌}

-- a number and what is counted, which has one name for one and another for others
abbrev pub count_text : ℕ → List ℕ → List ℕ → List ℕ
count_text n one others = decimal n ++ (if n == 1 then one else others)
