use Rattle.std.proofs.Common.{⊎_elim}
use Rattle.rpki_files.proofs.NothingRead.{rejected, neither_read}
use Rattle.rpki_files.proofs.contents.as_certificate.Goals as goal

pub returns-in-Err : goal.returns-in-Err
returns-in-Err c =
    let fault = c.in-Err.fault in
    neither_read c.args.octets.now fault c.neither.result c.neither.ensures
    (λ not_memory shown. ⊎_elim (λ its. rejected fault c.in-Err.ensures.means not_memory its.0 its.1)
    (λ other. c.requires other) shown)
