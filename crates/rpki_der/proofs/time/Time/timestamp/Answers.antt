use Rattle.std.proofs.Common.{arith, sym, ◌∙◌, FitsSigned, w64, to_z-of_z}
use Rattle.jiff_core.proofs.SignedLemmas.{signed_arith}
use Rattle.rpki_der.proofs.Timestamps.{timestamp_is}
use Rattle.rpki_der.proofs.time.Time.timestamp.Goals as goal

pub returns : goal.returns
returns c =
    let fits : FitsSigned w64 c.to_second.result = omega (arith, signed_arith, c.to_second.ensures.bound) in
    rw (← c.self.view_is) (to_z-of_z fits ∙ c.to_second.ensures.value ∙ sym (timestamp_is c.self.inside.inner c.self.invariant.year))
