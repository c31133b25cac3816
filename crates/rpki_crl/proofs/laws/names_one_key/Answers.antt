use Rattle.rpki_crl.proofs.NamedKeys.{list_names, one_key}
use Rattle.rpki_crl.proofs.laws.names_one_key.Goals as goal

pub returns-clause-own : goal.returns-clause-own
returns-clause-own c = list_names

pub returns-clause-one : goal.returns-clause-one
returns-clause-one c = one_key
