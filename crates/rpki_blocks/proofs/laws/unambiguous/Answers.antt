use Rattle.rpki_der.proofs.FormatAnswers.{alone_means}
use Rattle.rpki_blocks.proofs.AddressReads.{ip_alone}
use Rattle.rpki_blocks.proofs.SystemReads.{as_alone}
use Rattle.rpki_blocks.proofs.laws.unambiguous.Goals as goal

pub returns : goal.returns
returns c = record { addresses = alone_means _ ip_alone; numbers = alone_means _ as_alone }
