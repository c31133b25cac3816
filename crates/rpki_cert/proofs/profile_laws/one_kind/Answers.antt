use Rattle.rpki_cert.proofs.Exclusive.{same_group, plain_is_detached}
use Rattle.rpki_cert.proofs.profile_laws.one_kind.Goals as goal

pub returns : goal.returns
returns c = record { one = same_group; end_entity = plain_is_detached }
