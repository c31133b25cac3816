use Rattle.std.proofs.Common.{subst}
use Rattle.rpki_parts.specs.Uris.{IsHttps}
use Rattle.rpki_parts.proofs.UriTests.{https_decides}
use Rattle.rpki_parts.proofs.https.Https.as_bytes.Goals as goal

pub returns-clause-valid : goal.returns-clause-valid
returns-clause-valid c = subst IsHttps c.self.view_is ((https_decides _).0 c.self.invariant)
