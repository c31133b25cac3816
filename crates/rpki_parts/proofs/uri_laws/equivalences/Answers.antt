use Rattle.rpki_parts.proofs.UriEquivalences.{rsync_equivalence, https_equivalence, identical_equivalence}
use Rattle.rpki_parts.proofs.uri_laws.equivalences.Goals as goal

pub returns : goal.returns
returns c = record { rsync = rsync_equivalence; https = https_equivalence; identical = identical_equivalence }
