use Rattle.rpki_lines.proofs.MemberLines.{no_member}
use Rattle.rpki_lines.proofs.path_lines.member_from.Goals as goal

pub returns-in_default-3-clause-none : goal.returns-in_default-3-clause-none
returns-in_default-3-clause-none c =
    let ca = rw c.in_default.is at c.in_ok-octets.ensures.none in
    let ee = rw c.in_default-2.is at c.in_ok-octets-2.ensures.none in
    let detached = rw c.in_default-3.is at c.in_ok-octets-3.ensures.none in
    no_member c.args.line.now ca ee detached
