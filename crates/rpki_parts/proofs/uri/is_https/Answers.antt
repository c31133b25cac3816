use Rattle.rpki_parts.proofs.UriTests.{https_decides}
use Rattle.rpki_parts.proofs.uri.is_https.Goals as goal

pub returns-clause-grammar : goal.returns-clause-grammar
returns-clause-grammar c = rw c.is_uri.ensures (https_decides c.args.uri.now)
