use Rattle.std.specs.Prelude.{option_copied}
use Rattle.std.proofs.Common.{take}
use Rattle.rpki_path.specs.AskedLists.{IsEligibleNamed}
use Rattle.rpki_path.specs.AskedLists.Steps.{IsLatestIfAny}
use Rattle.rpki_path.proofs.revocation.given.latest.Given as goal

abbrev pub invariant-loop-list : goal.invariant-loop-list
invariant-loop-list g l =
    IsLatestIfAny (IsEligibleNamed l.names (g.V.Verifier.verifies l.verifier) l.now l.issuer.cert.fields l.cert)
    l.cert (take l.list-index l.lists) (option_copied l.kept)
