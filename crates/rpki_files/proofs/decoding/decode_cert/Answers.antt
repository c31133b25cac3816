use Rattle.rpki_files.proofs.NothingRead.{rejected}
use Rattle.rpki_files.proofs.decoding.decode_cert.Goals as goal

pub why_unread-requires : goal.why_unread-requires
why_unread-requires c =
    λ not_memory begins. rejected c.in-Err.fault c.in-Err.ensures.means not_memory begins.0 begins.1
