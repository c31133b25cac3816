use Rattle.std.proofs.Common.{map}
use Rattle.rpki_files.proofs.PemLines.{AreDigitsOf}
use Rattle.rpki_files.proofs.files.base64_in.Given as goal

-- the lines so far have gone in, and the object ends at none of them
abbrev pub invariant-loop-line : goal.invariant-loop-line
invariant-loop-line l = AreDigitsOf l.digits.items (map (λ line. line.now) l.yielded)
