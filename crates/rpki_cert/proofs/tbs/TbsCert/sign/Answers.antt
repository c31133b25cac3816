use Rattle.std.proofs.Common.{rules}
use Rattle.rpki_cert.proofs.tbs.TbsCert.sign.Goals as goal

pub returns-in_err-encode_ref-clause-fields : goal.returns-in_err-encode_ref-clause-fields
returns-in_err-encode_ref-clause-fields g c = search rules

pub returns-in_err-encode_ref-clause-message : goal.returns-in_err-encode_ref-clause-message
returns-in_err-encode_ref-clause-message g c = search rules

pub returns-in_err-encode_ref-clause-signed : goal.returns-in_err-encode_ref-clause-signed
returns-in_err-encode_ref-clause-signed g c = search rules

pub returns-in_err-encode_ref-clause-fits : goal.returns-in_err-encode_ref-clause-fits
returns-in_err-encode_ref-clause-fits g c = search rules

pub returns-in_err-encode_ref-clause-rejected : goal.returns-in_err-encode_ref-clause-rejected
returns-in_err-encode_ref-clause-rejected g c = search rules

pub returns-in_err-octets-clause-fields : goal.returns-in_err-octets-clause-fields
returns-in_err-octets-clause-fields g c = search rules

pub returns-in_err-octets-clause-message : goal.returns-in_err-octets-clause-message
returns-in_err-octets-clause-message g c = search rules

pub returns-in_err-octets-clause-signed : goal.returns-in_err-octets-clause-signed
returns-in_err-octets-clause-signed g c = search rules

pub returns-in_err-octets-clause-fits : goal.returns-in_err-octets-clause-fits
returns-in_err-octets-clause-fits g c = search rules

pub returns-in_err-octets-clause-rejected : goal.returns-in_err-octets-clause-rejected
returns-in_err-octets-clause-rejected g c = search rules

pub returns-clause-fields : goal.returns-clause-fields
returns-clause-fields g c = search rules

pub returns-clause-message : goal.returns-clause-message
returns-clause-message g c = search rules

pub returns-clause-signed : goal.returns-clause-signed
returns-clause-signed g c = search rules

pub returns-clause-fits : goal.returns-clause-fits
returns-clause-fits g c = search rules

pub returns-clause-rejected : goal.returns-clause-rejected
returns-clause-rejected g c = search rules
