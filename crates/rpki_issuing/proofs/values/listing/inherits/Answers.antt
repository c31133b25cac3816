use Rattle.std.specs.Prelude.{codes}
use Rattle.rpki_issuing.proofs.ZippedTexts.{one_word}
use Rattle.rpki_issuing.proofs.values.listing.inherits.Goals as goal

pub returns-in-len1 : goal.returns-in-len1
returns-in-len1 c =
    one_word c.args.texts.now _ (codes "inherit") c.eq.result c.in-len1.len_at_least c.in-len1.len_below
    (rw c.as_slice.ensures at c.eq.ensures)
