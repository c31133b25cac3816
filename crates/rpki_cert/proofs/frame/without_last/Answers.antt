use Rattle.std.proofs.Common.{sym}
use Rattle.rpki_cert.proofs.FrameReads.{split_is}
use Rattle.rpki_cert.proofs.frame.without_last.Goals as goal

pub returns : goal.returns
returns c = sym (split_is c.args.values.items c.pop.new.self.items c.in_ok-last.last c.in_ok-last.ensures.items)
