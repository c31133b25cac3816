use Rattle.std.proofs.Common.{map, string_bytes, take}
use Rattle.rpki_answers.specs.TreeDocuments.Steps.{AppendsRows}
use Rattle.rpki_answers.proofs.trees.append_rows.Given as goal

-- the rows so far
abbrev pub invariant-loop-row : goal.invariant-loop-row
invariant-loop-row l =
    AppendsRows l.options.format l.options.only_rejected (map (λ f. f.now) l.certs) (take l.row-index l.rows)
    (string_bytes l.fn.out) (string_bytes l.out)
