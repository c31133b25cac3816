use Rattle.rpki_isolation.proofs.AddedFiles.{copy_adds, own_adds, own_list_adds}
use Rattle.rpki_isolation.proofs.laws.added_files.Goals as goal

pub returns-clause-copy : goal.returns-clause-copy
returns-clause-copy g c = λ verifier keys old octets more at cert means. copy_adds c.unambiguous.ensures.certificate
    (g.V.Verifier.verifies verifier) keys old octets more at cert means

pub returns-clause-own : goal.returns-clause-own
returns-clause-own g c = λ verifier keys old octets cert means only. own_adds c.unambiguous.ensures.certificate
    (g.V.Verifier.verifies verifier) keys old octets cert means only

pub returns-clause-own_list : goal.returns-clause-own_list
returns-clause-own_list g c = λ verifier keys old l only. own_list_adds c.unambiguous.ensures.certificate
    (g.V.Verifier.verifies verifier) keys old l only
