use Rattle.std.proofs.Common.{◌≡◌, true, refl}
use Rattle.rpki_der.specs.Primitives.Reading.{is_oid}
use Rattle.rpki_der.proofs.IdentifierReads.{oid_takes, oid_again}
use Rattle.rpki_der.proofs.oid.Oid.from_piece.Goals as goal

pub returns-then-is_oid-clause-accepted : goal.returns-then-is_oid-clause-accepted
returns-then-is_oid-clause-accepted c =
    let whole : is_oid c.args.content ≡ true = cc in
    (λ _. oid_takes c.args.content whole, λ _. refl)

pub returns-else-is_oid-clause-accepted : goal.returns-else-is_oid-clause-accepted
returns-else-is_oid-clause-accepted c = (λ e. absurd cc, λ o. let whole : is_oid c.args.content ≡ true = oid_again c.args.content o in cc)
