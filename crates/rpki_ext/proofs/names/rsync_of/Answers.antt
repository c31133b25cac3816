use Rattle.std.proofs.Common.{sym, subst}
use Rattle.std.proofs.lemmas.Bool.{false≢true}
use Rattle.rpki_der.specs.Place.{remaining}
use Rattle.rpki_parts.specs.Uris.{IsRsync}
use Rattle.rpki_parts.specs.Uris.Tests.{is_rsync}
use Rattle.rpki_parts.proofs.UriTests.{rsync_decides}
use Rattle.rpki_ext.proofs.GeneralNames.{text_is_not}
use Rattle.rpki_ext.proofs.names.rsync_of.Goals as goal

pub returns-in-Err-clause-ok : goal.returns-in-Err-clause-ok
returns-in-Err-clause-ok c =
    sym (text_is_not is_rsync IsRsync rsync_decides (remaining c.args.text)
    (λ u. false≢true (c.in-Err.ensures.accepted.1 (subst IsRsync (sym c.in_ok-capture_rest.ensures.ok.0) u))))
