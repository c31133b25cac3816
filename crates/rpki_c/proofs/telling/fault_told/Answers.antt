use Rattle.std.proofs.Common.{List, ℕ, Option, Some, ap, ◌∙◌}
use Rattle.rpki_files.specs.FaultTable.{fault_numbered}
use Rattle.rpki_c.specs.FaultTexts.{first_number, told_if}
use Rattle.rpki_c.proofs.telling.fault_told.Goals as goal

pub returns-in_err-part : goal.returns-in_err-part
returns-in_err-part c =
    rw c.from_residual.ensures
    (ap (λ (part : Option (List ℕ)). told_if part (fault_numbered (first_number c.args.number)))
    c.in_err-part.ensures)

pub returns-in_err-fault : goal.returns-in_err-fault
returns-in_err-fault c =
    rw c.from_residual-in_err-fault.ensures
    (ap (told_if (Some c.in_ok-part.part.now)) (c.in_err-fault.ensures ∙ ap fault_numbered c.first_number.ensures) ∙
    ap (λ (part : Option (List ℕ)). told_if part (fault_numbered (first_number c.args.number)))
    c.in_ok-part.ensures)

pub returns : goal.returns
returns c =
    ap (told_if (Some c.in_ok-part.part.now)) (c.in_ok-fault.ensures ∙ ap fault_numbered c.first_number.ensures) ∙
    ap (λ (part : Option (List ℕ)). told_if part (fault_numbered (first_number c.args.number)))
    c.in_ok-part.ensures
