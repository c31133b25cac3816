use Rattle.std.proofs.Common.{◌∙◌}
use Rattle.rpki_der.proofs.MomentOrder.{moment_cmp}
use Rattle.rpki_der.proofs.time.TimeOrd.cmp.Goals as goal

pub returns : goal.returns
returns c = rw (← c.self.view_is, ← c.other.view_is)
    (c.cmp.ensures ∙ moment_cmp c.self.inside.inner c.other.inside.inner c.self.invariant c.other.invariant)
