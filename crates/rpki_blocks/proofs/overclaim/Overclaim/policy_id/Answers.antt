use Rattle.std.proofs.Common.{refl}
use Rattle.rpki_der.proofs.IdentifierReads.{oid_takes}
use Rattle.rpki_blocks.proofs.overclaim.Overclaim.policy_id.Goals as goal

pub returns-in-Refuse-clause-valid : goal.returns-in-Refuse-clause-valid
returns-in-Refuse-clause-valid c = oid_takes _ refl

pub returns-in-Trim-clause-valid : goal.returns-in-Trim-clause-valid
returns-in-Trim-clause-valid c = oid_takes _ refl
