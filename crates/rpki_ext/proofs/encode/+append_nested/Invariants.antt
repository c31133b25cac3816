use Rattle.std.proofs.Common.{length}
use Rattle.rpki_ext.proofs.encode.+append_nested.Given as goal

abbrev pub decreases-append_nested : goal.decreases-append_nested
decreases-append_nested l = length l.tags.now
