use Rattle.std.proofs.Common.{rc_value}
use Rattle.rpki_lines.specs.Questions.{path_question}
use Rattle.rpki_lines.proofs.Reports.{path_accepted, path_wrong}
use Rattle.rpki_lines.proofs.report.of_path.Goals as goal

pub returns-in-Ok : goal.returns-in-Ok
returns-in-Ok c =
    let validates = rw c.deref.ensures.value at c.in-Ok.ensures.validates in
    path_accepted (path_question c.args.question) (rc_value c.in_ok-tal.tal) c.in-Ok.cert c.accepted-report.result
    validates c.accepted-report.ensures.status c.accepted-report.ensures.text c.accepted-report.ensures.sorted

pub returns : goal.returns
returns c =
    let validates = rw c.deref.ensures.value at c.in-Err.ensures.validates in
    let named = rw c.deref.ensures.value at c.in-Err.ensures.named in
    path_wrong (path_question c.args.question) c.in-Err.error c.wrong-report.result validates named
    c.wrong-report.ensures.status c.wrong-report.ensures.text
