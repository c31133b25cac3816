use Rattle.std.specs.Option.{option_map, option_or}
use Rattle.std.specs.Prelude.{None, fold}
use Rattle.std.proofs.Common.{◌≡◌, take}
use Rattle.rpki_verdicts.specs.UnseenCertificates.{error_in}
use Rattle.rpki_verdicts.proofs.parts.Trees.error_by_line.Given as goal

-- that of the parts so far
abbrev pub invariant-loop-part : goal.invariant-loop-part
invariant-loop-part l =
    option_map (λ name. name.now) l.error ≡ fold (λ error part. option_or error (error_in l.place part.answer)) None
    (take l.part-index l.self.parts.items)
