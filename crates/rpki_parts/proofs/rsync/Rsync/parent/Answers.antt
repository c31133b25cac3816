use Rattle.rpki_parts.proofs.UriTests.{rsync_decides}
use Rattle.rpki_parts.proofs.rsync.Rsync.parent.Goals as goal

pub invariant_of-result : goal.invariant_of-result
invariant_of-result c = rw (c.from.ensures, c.in_ok-octets-in-Some.ensures) ((rsync_decides c.in-Some.parent.now).1 c.in-Some.ensures.valid)
