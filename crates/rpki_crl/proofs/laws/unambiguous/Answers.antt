use Rattle.std.proofs.Common.{sym, ◌∙◌}
use Rattle.rpki_der.specs.Skipping.{levels}
use Rattle.rpki_der.proofs.FormatAnswers.{alone_means}
use Rattle.rpki_der.proofs.Octets.{both_are}
use Rattle.rpki_crl.specs.Lists.{certificate_list_format, list_format}
use Rattle.rpki_crl.proofs.ListFormats.{certificate_list_alone, list_alone}
use Rattle.rpki_crl.proofs.ListReads.{revoked_reads}
use Rattle.rpki_crl.proofs.laws.unambiguous.Goals as goal

pub returns-clause-list : goal.returns-clause-list
returns-clause-list c = alone_means (certificate_list_format levels) (certificate_list_alone levels)

pub returns-clause-data : goal.returns-clause-data
returns-clause-data c = alone_means (list_format levels) (list_alone levels)

pub returns-clause-revoked : goal.returns-clause-revoked
returns-clause-revoked c r s b rest tail one other =
    both_are (r, rest) (s, tail) (sym (revoked_reads.again b r rest one) ∙ revoked_reads.again b s tail other)
