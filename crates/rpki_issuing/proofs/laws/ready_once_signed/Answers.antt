use Rattle.rpki_issuing.proofs.SignatureAlone.{valid_signed}
use Rattle.rpki_issuing.proofs.laws.ready_once_signed.Goals as goal

pub returns : goal.returns
returns g c = λ verifier now strict role f value ready signed. valid_signed (g.V.Verifier.verifies verifier) now
    strict f value role ready.valid signed
