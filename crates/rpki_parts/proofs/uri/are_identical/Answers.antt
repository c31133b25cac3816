use Rattle.rpki_parts.proofs.UriParents.{identical_decides}
use Rattle.rpki_parts.proofs.uri.are_identical.Goals as goal

pub returns : goal.returns
returns c = rw (c.are_equal.ensures, c.trimmed.ensures, c.trimmed-2.ensures)
    (identical_decides c.args.uri.now c.args.other.now c.requires.uri c.requires.other)
