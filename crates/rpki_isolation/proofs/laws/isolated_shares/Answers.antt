use Rattle.rpki_cert.specs.Verification.{context}
use Rattle.rpki_isolation.proofs.Carried.{carries_back, carries_on}
use Rattle.rpki_isolation.proofs.IsolatedShares.{limit_there, child_there, enough_there, one_share_on, shares}
use Rattle.rpki_isolation.proofs.laws.isolated_shares.Goals as goal

pub returns-clause-children : goal.returns-clause-children
returns-clause-children g c = λ verifier now strict names keys old new t anchor other a b adds alike lets lets_then p free cert.
    let x = context (g.V.Verifier.verifies verifier) now strict in
    let law = c.unambiguous.ensures.certificate in
    let i = g.A.Admission.admits a in
    let i_then = g.B.Admission.admits b in (
      child_there x names t law keys anchor old i other new i_then
          (carries_on x names law keys old new adds anchor other alike i_then lets_then) p free cert,
      child_there x names t law keys other new i_then anchor old i
          (carries_back x names law keys old new adds anchor other alike i lets) p free cert,
    )

pub returns-clause-shares : goal.returns-clause-shares
returns-clause-shares g c = λ verifier now strict names keys old new t anchor other a b adds alike lets lets_then p free steps share.
    let x = context (g.V.Verifier.verifies verifier) now strict in
    let law = c.unambiguous.ensures.certificate in
    let i = g.A.Admission.admits a in
    let i_then = g.B.Admission.admits b in
    let on = carries_on x names law keys old new adds anchor other alike i_then lets_then.0 in
    let back = carries_back x names law keys old new adds anchor other alike i lets.0 in (
      shares x names t law keys anchor old i other new i_then on back lets.1 lets_then.1 p free steps share,
      shares x names t law keys other new i_then anchor old i back on lets_then.1 lets.1 p free steps share,
    )

pub returns-clause-one_share : goal.returns-clause-one_share
returns-clause-one_share g c = λ verifier now strict names keys folder t anchor a lets p free steps share other.
    one_share_on (context (g.V.Verifier.verifies verifier) now strict) names t c.unambiguous.ensures.certificate
    (g.A.Admission.admits a) anchor folder p keys lets.0 lets.1 free steps share other

pub returns-clause-enough : goal.returns-clause-enough
returns-clause-enough g c = λ verifier now strict names keys old new t anchor other a b adds alike lets lets_then p free depth steps.
    let x = context (g.V.Verifier.verifies verifier) now strict in
    let law = c.unambiguous.ensures.certificate in
    let i = g.A.Admission.admits a in
    let i_then = g.B.Admission.admits b in
    let on = carries_on x names law keys old new adds anchor other alike i_then lets_then.0 in
    let back = carries_back x names law keys old new adds anchor other alike i lets.0 in (
      enough_there x names t law keys anchor old i other new i_then on back lets.1 lets_then.1 p free depth steps,
      enough_there x names t law keys other new i_then anchor old i back on lets_then.1 lets.1 p free depth steps,
    )

pub returns-clause-limits : goal.returns-clause-limits
returns-clause-limits g c =
    λ verifier now strict names keys old new t anchor other a b adds alike lets lets_then p free depth steps children share.
    let x = context (g.V.Verifier.verifies verifier) now strict in
    let law = c.unambiguous.ensures.certificate in
    let i = g.A.Admission.admits a in
    let i_then = g.B.Admission.admits b in
    let on = carries_on x names law keys old new adds anchor other alike i_then lets_then.0 in
    let back = carries_back x names law keys old new adds anchor other alike i lets.0 in (
      limit_there x names t law keys anchor old i other new i_then on back lets.1 lets_then.1 p free depth steps children share,
      limit_there x names t law keys other new i_then anchor old i back on lets_then.1 lets.1 p free depth steps children share,
    )
