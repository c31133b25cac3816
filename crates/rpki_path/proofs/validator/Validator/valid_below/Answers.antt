use Rattle.rpki_path.proofs.validator.Validator.valid_below.Goals as goal

pub returns-in-Authority-clause-ok : goal.returns-in-Authority-clause-ok
returns-in-Authority-clause-ok g c = rw c.in-Authority.is c.validate_ca_at.ensures.ok

pub returns-in-Authority-clause-fault : goal.returns-in-Authority-clause-fault
returns-in-Authority-clause-fault g c = rw c.in-Authority.is c.validate_ca_at.ensures.fault

pub returns-in-EndEntity-clause-ok : goal.returns-in-EndEntity-clause-ok
returns-in-EndEntity-clause-ok g c = rw c.in-EndEntity.is c.validate_ee_at.ensures.ok

pub returns-in-EndEntity-clause-fault : goal.returns-in-EndEntity-clause-fault
returns-in-EndEntity-clause-fault g c = rw c.in-EndEntity.is c.validate_ee_at.ensures.fault

pub returns-in-Detached-clause-ok : goal.returns-in-Detached-clause-ok
returns-in-Detached-clause-ok g c = rw c.in-Detached.is c.validate_detached_ee_at.ensures.ok

pub returns-in-Detached-clause-fault : goal.returns-in-Detached-clause-fault
returns-in-Detached-clause-fault g c = rw c.in-Detached.is c.validate_detached_ee_at.ensures.fault
