use Rattle.std.proofs.Common.{subst, sym}
use Rattle.rpki_parts.specs.Algorithms.{algorithm_format}
use Rattle.rpki_der.specs.Encoding.{Begins, Means}
use Rattle.rpki_der.specs.Place.{Place, remaining}
use Rattle.rpki_files.proofs.TwoAlgorithms.{none_stands, other_stands}
use Rattle.rpki_files.proofs.places.is_other.Goals as goal

pub returns-in-Ok : goal.returns-in-Ok
returns-in-Ok c =
    let equal = c.equal_algorithms in
    let means = subst (λ (p : Place). Means algorithm_format.encodes c.in-Ok.beside (remaining p))
    c.fork-rest.ensures.same (_, c.in-Ok.ensures.encoded) in
    other_stands c.args.inside c.in-Ok.beside (remaining c.args.here.now) equal.result means equal.ensures

pub returns-in-Err : goal.returns-in-Err
returns-in-Err c = none_stands c.args.inside (remaining c.args.here.now)
    (λ b rest begins. c.in-Err.ensures.encoded.1 b rest
    (subst (λ (p : Place). Begins algorithm_format.encodes (remaining p) b rest) (sym c.fork-rest.ensures.same)
    begins))
