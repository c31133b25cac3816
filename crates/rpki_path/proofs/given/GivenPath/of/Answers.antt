use Rattle.std.proofs.Common.{refl}
use Rattle.rpki_path.proofs.GivenPaths.{cas_split, end_split, no_ca}
use Rattle.rpki_path.proofs.given.GivenPath.of.Goals as goal

pub returns-in-Authority-clause-split : goal.returns-in-Authority-clause-split
returns-in-Authority-clause-split c =
    rw c.in-Authority.is
    (cas_split c.args.members.now c.in_ok-anchor.anchor.now c.in_ok-anchor.below.now
    c.in_ok-anchor.ensures.cases.0)

pub returns-in_ok-end-in-EndEntity : goal.returns-in_ok-end-in-EndEntity
returns-in_ok-end-in-EndEntity c =
    let other = no_ca c.args.last c.in-EndEntity.is in
    let end = c.in_ok-end-in-EndEntity in
    let split = end_split c.args.last c.args.members.now c.in_ok-anchor.below.now end.cas.now
    c.in_ok-anchor.anchor.now end.end.now c.last_as-last.result c.in-EndEntity.is
    c.in_ok-anchor.ensures.cases.0 end.ensures.cases.0 (c.last_as-last.ensures other.0 other.1) in
    record { some = (λ yes. split.enough, λ can. refl); split = split.split; count = split.count }
