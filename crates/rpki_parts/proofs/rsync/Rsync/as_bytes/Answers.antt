use Rattle.std.proofs.Common.{subst}
use Rattle.rpki_parts.specs.Uris.{IsRsync}
use Rattle.rpki_parts.proofs.UriTests.{rsync_decides}
use Rattle.rpki_parts.proofs.rsync.Rsync.as_bytes.Goals as goal

pub returns-clause-valid : goal.returns-clause-valid
returns-clause-valid c = subst IsRsync c.self.view_is ((rsync_decides _).0 c.self.invariant)
