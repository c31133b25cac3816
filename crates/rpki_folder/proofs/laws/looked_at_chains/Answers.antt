use Rattle.rpki_folder.proofs.WalkedNames.{walked_chain}
use Rattle.rpki_folder.proofs.laws.looked_at_chains.Goals as goal

pub returns : goal.returns
returns g c = λ admission anchor certs above place kind p path_of itself h.
    walked_chain (g.A.Admission.admits admission) anchor certs above place kind p path_of itself h
