use Rattle.rpki_cert.proofs.Verdicts.{one_issued, one_listed}
use Rattle.rpki_cert.proofs.verification_laws.one_result.Goals as goal

pub returns-clause-issued : goal.returns-clause-issued
returns-clause-issued c = one_issued

pub returns-clause-listed : goal.returns-clause-listed
returns-clause-listed c = one_listed
