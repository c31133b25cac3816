use Rattle.rpki_crl.proofs.EntryWritten.{elements_made}
use Rattle.rpki_crl.proofs.ExampleLists.{some_list, some_list_fits}
use Rattle.rpki_crl.proofs.SignedLists.{signed_list}
use Rattle.rpki_crl.proofs.ListFormats.{list_made}
use Rattle.rpki_crl.proofs.laws.written_is_read.Goals as goal

pub returns-clause-data : goal.returns-clause-data
returns-clause-data c = list_made

pub returns-clause-list : goal.returns-clause-list
returns-clause-list c = signed_list

pub returns-clause-elements : goal.returns-clause-elements
returns-clause-elements c = elements_made

pub returns-clause-premises : goal.returns-clause-premises
returns-clause-premises c = (some_list, some_list_fits)
