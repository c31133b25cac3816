use Rattle.rpki_cert.proofs.Exclusive.{anchor_is_ca, signs_itself, authority_is_ca}
use Rattle.rpki_cert.proofs.profile_laws.authorities.Goals as goal

pub returns : goal.returns
returns c = record { anchor = anchor_is_ca; signs_itself = signs_itself; authority = authority_is_ca }
