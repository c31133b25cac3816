use Rattle.std.proofs.Common.{arith}
use Rattle.rpki_crl.proofs.DeeperLists.{deeper_list}
use Rattle.rpki_crl.proofs.laws.still_read.Goals as goal

pub returns-clause-general : goal.returns-clause-general
returns-clause-general c d e list b le h = deeper_list d e le list b h

pub returns-clause-to_32 : goal.returns-clause-to_32
returns-clause-to_32 c list octets rest h =
    record { text = h.text; encoded = deeper_list 16 32 (omega arith) list h.text h.encoded; parts = h.parts }
