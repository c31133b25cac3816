use Rattle.std.specs.Prelude.{[], ◌∷◌, cond, codes}
use Rattle.rpki_lines.specs.Program.{output_of, SaysOfList}
use Rattle.rpki_lines.specs.declared.running.Status.TheVariants.{Done}
use Rattle.rpki_lines.proofs.Reports.{answered, found_says, rejected_says}
use Rattle.rpki_lines.proofs.report.of_list.Goals as goal

pub returns-in-Ok : goal.returns-in-Ok
returns-in-Ok c =
    let q = c.args.question.now in
    answered (SaysOfList q.list q.serial) c.found.result Done
    (output_of (cond c.contains.result (codes "yes") (codes "no") ∷ [])) c.found.ensures.status
    c.found.ensures.text
    (found_says q.list q.serial c.in-Ok.list c.contains.result c.in-Ok.ensures c.contains.ensures.revoked)

pub returns-in-Err : goal.returns-in-Err
returns-in-Err c =
    rejected_says c.args.question.now.list c.args.question.now.serial c.in-Err.error c.no_list.result c.in-Err.ensures
    c.no_list.ensures.other c.no_list.ensures.status c.no_list.ensures.text
