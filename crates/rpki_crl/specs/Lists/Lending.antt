-- What a list ends as, where its revoked certificates are lent.
use Rattle.std.specs.Borrow.{Lends, MutBor, Fml, RattleType}
use Rattle.rpki_crl.specs.Lists.{ListFields}
use Rattle.rpki_crl.specs.contracts.tbs.TbsCertList.{the_row}

-- once the borrow ends, the revoked certificates are what was left behind it, and all other fields
-- are as before
abbrev pub LendsRevoked : (C : RattleType) → MutBor (ListFields C.Denot) → MutBor C.Denot → Fml
LendsRevoked C list lent = Lends (the_row C) C list lent (λ revoked. record list.now { revoked = revoked })
