use Rattle.std.proofs.Common.{ℕ, inl, inr, subst}
use Rattle.rpki_cert.specs.Verification.{context}
use Rattle.rpki_isolation.specs.PathShares.{HasEnoughOn}
use Rattle.rpki_isolation.proofs.Carried.{carries_back, carries_on}
use Rattle.rpki_isolation.proofs.IsolatedShares.{enough_there}
use Rattle.rpki_isolation.proofs.IsolatedWalks.{accepted_before, accepted_then, enough_of, verdicts_alike}
use Rattle.rpki_isolation.proofs.laws.isolated_walks.Goals as goal

pub returns-clause-alike : goal.returns-clause-alike
returns-clause-alike g c = λ verifier now strict names keys old new t anchor other a b adds alike w v p free cert one two told told_then.
    verdicts_alike (context (g.V.Verifier.verifies verifier) now strict) names t c.unambiguous.ensures.certificate
    keys old new adds anchor other alike (g.A.Admission.admits a) (g.B.Admission.admits b) p free cert w v one
    two told told_then

pub returns-clause-stays : goal.returns-clause-stays
returns-clause-stays g c = λ verifier now strict names keys old new t anchor other a b adds alike lets w v p free cert far told.
    accepted_then (context (g.V.Verifier.verifies verifier) now strict) names t c.unambiguous.ensures.certificate keys
    old new adds anchor other alike (g.A.Admission.admits a) (g.B.Admission.admits b) p free cert w v lets far
    told

pub returns-clause-only : goal.returns-clause-only
returns-clause-only g c = λ verifier now strict names keys old new t anchor other a b adds alike lets w v p free cert far told.
    accepted_before (context (g.V.Verifier.verifies verifier) now strict) names t c.unambiguous.ensures.certificate
    keys old new adds anchor other alike (g.A.Admission.admits a) (g.B.Admission.admits b) p free cert w v lets
    far told

pub returns-clause-bounded : goal.returns-clause-bounded
returns-clause-bounded g c =
    λ verifier now strict names keys old new t anchor other a b adds alike lets lets_then w v deep long p free enough cert.
    let x = context (g.V.Verifier.verifies verifier) now strict in
    let law = c.unambiguous.ensures.certificate in
    let i = g.A.Admission.admits a in
    let i_then = g.B.Admission.admits b in
    let on = carries_on x names law keys old new adds anchor other alike i_then lets_then.0 in
    let back = carries_back x names law keys old new adds anchor other alike i lets.0 in
    let there = enough_there x names t law keys anchor old i other new i_then on back lets.1 lets_then.1 p free w.depth w.steps enough in
    let enough_then = subst (λ (n : ℕ). HasEnoughOn x names i_then t other new n v.steps p) deep
    (subst (λ (n : ℕ). HasEnoughOn x names i_then t other new w.depth n p) long there) in (
      (λ told. accepted_then x names t law keys old new adds anchor other alike i i_then p free cert w v lets_then.0
          (inr enough_then) told),
      (λ told. accepted_before x names t law keys old new adds anchor other alike i i_then p free cert w v lets.0 (inr enough) told),
    )

pub returns-clause-unharmed : goal.returns-clause-unharmed
returns-clause-unharmed g c =
    λ verifier now strict names keys old new t anchor other a b adds alike lets lets_then w v deep long p free covers cert.
    let x = context (g.V.Verifier.verifies verifier) now strict in
    let law = c.unambiguous.ensures.certificate in
    let i = g.A.Admission.admits a in
    let i_then = g.B.Admission.admits b in
    let on = carries_on x names law keys old new adds anchor other alike i_then lets_then.0 in
    let back = carries_back x names law keys old new adds anchor other alike i lets.0 in (
      (λ told.
          let enough = enough_of x names t law anchor old i w p cert covers told in
          let there = enough_there x names t law keys anchor old i other new i_then on back lets.1 lets_then.1 p free
          w.depth w.steps enough in
          let enough_then = subst (λ (n : ℕ). HasEnoughOn x names i_then t other new n v.steps p) deep
          (subst (λ (n : ℕ). HasEnoughOn x names i_then t other new w.depth n p) long there) in
          accepted_then x names t law keys old new adds anchor other alike i i_then p free cert w v lets_then.0 (inr enough_then) told),
      (λ told. accepted_before x names t law keys old new adds anchor other alike i i_then p free cert w v lets.0 (inl covers) told),
    )
