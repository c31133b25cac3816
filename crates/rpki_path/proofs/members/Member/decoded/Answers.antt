use Rattle.std.proofs.Common.{rules, ◌≡◌, Err}
use Rattle.rpki_path.specs.FaultNames.{of_decoding}
use Rattle.rpki_path.proofs.FoundSteps.{not_decoded}
use Rattle.rpki_path.proofs.members.Member.decoded.Goals as goal

pub returns-in_err-decode_shared-in-None-clause-fault : goal.returns-in_err-decode_shared-in-None-clause-fault
returns-in_err-decode_shared-in-None-clause-fault c =
    let same : c.from_residual-in_err-decode_shared-in-None.result ≡
    Err (of_decoding c.in_err-decode_shared-in-None.field-0.0) = search rules in
    let octets : c.in_ok-clone-in-None.field-0 ≡ c.args.self.now = search rules in
    rw same (not_decoded c.args.self.now c.in_err-decode_shared-in-None.field-0.0
    (rw octets at c.in_err-decode_shared-in-None.ensures))
