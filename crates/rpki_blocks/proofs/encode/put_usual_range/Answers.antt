use Rattle.rpki_der.proofs.Appending.{appends}
use Rattle.rpki_blocks.proofs.NumbersWritten.{range_3}
use Rattle.rpki_blocks.proofs.encode.put_usual_range.Goals as goal

pub returns-clause-ok : goal.returns-clause-ok
returns-clause-ok c = appends c.extend_from_slice.result c.args.out.now.items
    _ _ _ (range_3 c.args.min c.args.max c.requires.least c.requires.ordered c.requires.most)
    (rw (c.to_be_bytes.ensures, c.to_be_bytes-2.ensures) at c.extend_from_slice.ensures.items)
