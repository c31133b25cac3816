use Rattle.std.proofs.Common.{rules}
use Rattle.rpki_cert.proofs.cert.Cert.issued_sets.Goals as goal

pub returns-in_err-v4-clause-v4 : goal.returns-in_err-v4-clause-v4
returns-in_err-v4-clause-v4 c = search rules

pub returns-in_err-v4-clause-v6 : goal.returns-in_err-v4-clause-v6
returns-in_err-v4-clause-v6 c = search rules

pub returns-in_err-v4-clause-as_numbers : goal.returns-in_err-v4-clause-as_numbers
returns-in_err-v4-clause-as_numbers c = search rules

pub returns-in_err-v4-clause-held : goal.returns-in_err-v4-clause-held
returns-in_err-v4-clause-held c = search rules

pub returns-in_err-v4-clause-fault : goal.returns-in_err-v4-clause-fault
returns-in_err-v4-clause-fault c = search rules

pub returns-in_err-addresses-clause-v4 : goal.returns-in_err-addresses-clause-v4
returns-in_err-addresses-clause-v4 c = search rules

pub returns-in_err-addresses-clause-v6 : goal.returns-in_err-addresses-clause-v6
returns-in_err-addresses-clause-v6 c = search rules

pub returns-in_err-addresses-clause-as_numbers : goal.returns-in_err-addresses-clause-as_numbers
returns-in_err-addresses-clause-as_numbers c = search rules

pub returns-in_err-addresses-clause-held : goal.returns-in_err-addresses-clause-held
returns-in_err-addresses-clause-held c = search rules

pub returns-in_err-addresses-clause-fault : goal.returns-in_err-addresses-clause-fault
returns-in_err-addresses-clause-fault c = search rules

pub returns-in_err-v4-2-clause-v4 : goal.returns-in_err-v4-2-clause-v4
returns-in_err-v4-2-clause-v4 c = search rules

pub returns-in_err-v4-2-clause-v6 : goal.returns-in_err-v4-2-clause-v6
returns-in_err-v4-2-clause-v6 c = search rules

pub returns-in_err-v4-2-clause-as_numbers : goal.returns-in_err-v4-2-clause-as_numbers
returns-in_err-v4-2-clause-as_numbers c = search rules

pub returns-in_err-v4-2-clause-held : goal.returns-in_err-v4-2-clause-held
returns-in_err-v4-2-clause-held c = search rules

pub returns-in_err-v4-2-clause-fault : goal.returns-in_err-v4-2-clause-fault
returns-in_err-v4-2-clause-fault c = search rules

pub returns-clause-v4 : goal.returns-clause-v4
returns-clause-v4 c = search rules

pub returns-clause-v6 : goal.returns-clause-v6
returns-clause-v6 c = search rules

pub returns-clause-as_numbers : goal.returns-clause-as_numbers
returns-clause-as_numbers c = search rules

pub returns-clause-held : goal.returns-clause-held
returns-clause-held c = search rules

pub returns-clause-fault : goal.returns-clause-fault
returns-clause-fault c = search rules
