use Rattle.std.proofs.Common.{rules}
use Rattle.rpki_cert.proofs.cert.Cert.kept_below.Goals as goal

pub returns-in_err-verify_basis-clause-checks : goal.returns-in_err-verify_basis-clause-checks
returns-in_err-verify_basis-clause-checks g c = search rules

pub returns-in_err-verify_basis-clause-gives : goal.returns-in_err-verify_basis-clause-gives
returns-in_err-verify_basis-clause-gives g c = search rules

pub returns-in_err-sets-clause-checks : goal.returns-in_err-sets-clause-checks
returns-in_err-sets-clause-checks g c = search rules

pub returns-in_err-sets-clause-gives : goal.returns-in_err-sets-clause-gives
returns-in_err-sets-clause-gives g c = search rules

pub returns-in_err-sets-2-clause-checks : goal.returns-in_err-sets-2-clause-checks
returns-in_err-sets-2-clause-checks g c = search rules

pub returns-in_err-sets-2-clause-gives : goal.returns-in_err-sets-2-clause-gives
returns-in_err-sets-2-clause-gives g c = search rules

pub returns-clause-checks : goal.returns-clause-checks
returns-clause-checks g c = search rules

pub returns-clause-gives : goal.returns-clause-gives
returns-clause-gives g c = search rules
