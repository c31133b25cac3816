use Rattle.std.specs.Prelude.{[], ◌∷◌, codes, decimal}
use Rattle.std.proofs.Common.{inl, inr, refl}
use Rattle.rpki_lines.specs.declared.running.Status.TheVariants.{BadInput}
use Rattle.rpki_lines.specs.Program.{is_valid_path, output_of, Says}
use Rattle.rpki_lines.specs.Questions.{path_question, revoked_question}
use Rattle.rpki_lines.proofs.InputLines.{if_ok}
use Rattle.rpki_lines.proofs.Reports.{answered}
use Rattle.rpki_lines.proofs.report.Report.of.Goals as goal

pub returns-in-Revoked : goal.returns-in-Revoked
returns-in-Revoked c = λ text read.
    let asked = rw c.in-Revoked.is at read in
    if_ok c.of_list.result
    (λ report says. (asked.0, asked.1, inl (revoked_question c.in-Revoked.question, asked.2, says)))
    c.of_list.ensures

pub returns-in-Path : goal.returns-in-Path
returns-in-Path c = λ text read.
    let asked = rw c.in-Path.is at read in
    if_ok c.of_path.result
    (λ report says. (asked.0, asked.1, inl (is_valid_path (path_question c.in-Path.question), asked.2, says)))
    c.of_path.ensures

pub returns-in-Bad : goal.returns-in-Bad
returns-in-Bad c = λ text read.
    let asked = rw c.in-Bad.is at read in
    answered (Says text) c.bad_input.result BadInput (output_of (codes "bad input " ∷ decimal c.in-Bad.number ∷ []))
    c.bad_input.ensures.status c.bad_input.ensures.text
    (asked.0, asked.1, inr (c.in-Bad.number, asked.2, refl, refl))
