use Rattle.std.proofs.Common.{codes, refl}
use Rattle.rpki_parts.proofs.UriTests.{equal_decides}
use Rattle.rpki_parts.proofs.rsync.RsyncPartialEq.eq.Goals as goal

pub returns-clause-equal : goal.returns-clause-equal
returns-clause-equal c =
    let u = c.as_bytes.ensures.valid.is in
    let v = c.as_bytes-2.ensures.valid.is in
    rw (c.are_equal.ensures, c.as_bytes.ensures.octets, c.as_bytes-2.ensures.octets) (equal_decides (codes "rsync://") _ _ _ _ _ _ refl u v)
