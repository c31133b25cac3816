use Rattle.std.proofs.Common.{arith}
use Rattle.rpki_cert.specs.Verification.{context}
use Rattle.rpki_path.proofs.CutPaths.{one_entity_alike, cut_walkable, last_cut, holds_last, end_cut}
use Rattle.rpki_path.proofs.laws.cut_is_walkable.Goals as goal

pub returns-clause-walkable : goal.returns-clause-walkable
returns-clause-walkable g c = λ verifier source now strict names p i j by_entity walkable before within one.
    let x = context (g.V.Verifier.verifies verifier) now strict in
    let asked = g.R.RevocationSource.asks source x in
    let alike = one_entity_alike x asked names p walkable.is_valid i j (omega (arith, before, within)) within one in
    cut_walkable p i j (omega (arith, before)) within names alike x asked by_entity walkable

pub returns-clause-shorter : goal.returns-clause-shorter
returns-clause-shorter g c = λ p i j before within. last_cut p i j (omega (arith, before)) within

pub returns-clause-holds : goal.returns-clause-holds
returns-clause-holds g c = λ p i j before within. holds_last p i j (omega (arith, before)) within

pub returns-clause-end : goal.returns-clause-end
returns-clause-end g c = λ p i j before within. end_cut p i j (omega (arith, before)) (omega (arith, within)) within
