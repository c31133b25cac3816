use Rattle.std.proofs.Common.{rules}
use Rattle.rpki_crl.proofs.tbs.TbsCertList.to_revoked.Goals as goal

pub returns-in_err-entries-clause-entries : goal.returns-in_err-entries-clause-entries
returns-in_err-entries-clause-entries g c = search rules

pub returns-in_err-entries-clause-fields : goal.returns-in_err-entries-clause-fields
returns-in_err-entries-clause-fields g c = search rules

pub returns-in_err-entries-clause-memory : goal.returns-in_err-entries-clause-memory
returns-in_err-entries-clause-memory g c = search rules

pub returns-in_err-revoked_certs-clause-entries : goal.returns-in_err-revoked_certs-clause-entries
returns-in_err-revoked_certs-clause-entries g c = search rules

pub returns-in_err-revoked_certs-clause-fields : goal.returns-in_err-revoked_certs-clause-fields
returns-in_err-revoked_certs-clause-fields g c = search rules

pub returns-in_err-revoked_certs-clause-memory : goal.returns-in_err-revoked_certs-clause-memory
returns-in_err-revoked_certs-clause-memory g c = search rules

pub returns-clause-entries : goal.returns-clause-entries
returns-clause-entries g c = search rules

pub returns-clause-fields : goal.returns-clause-fields
returns-clause-fields g c = search rules

pub returns-clause-memory : goal.returns-clause-memory
returns-clause-memory g c = search rules
