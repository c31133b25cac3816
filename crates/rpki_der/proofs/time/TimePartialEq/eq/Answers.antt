use Rattle.std.proofs.Common.{◌∙◌}
use Rattle.rpki_der.proofs.MomentOrder.{moment_eq}
use Rattle.rpki_der.proofs.time.TimePartialEq.eq.Goals as goal

pub returns : goal.returns
returns c = rw (← c.self.view_is, ← c.other.view_is)
    (c.eq.ensures ∙ moment_eq c.self.inside.inner c.other.inside.inner c.self.invariant c.other.invariant)
