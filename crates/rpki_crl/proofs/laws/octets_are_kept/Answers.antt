use Rattle.rpki_crl.proofs.SignedLists.{list_is}
use Rattle.rpki_crl.proofs.laws.octets_are_kept.Goals as goal

pub returns : goal.returns
returns c = list_is
