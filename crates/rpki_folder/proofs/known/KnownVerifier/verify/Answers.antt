use Rattle.std.specs.Prelude.{IsTrue}
use Rattle.std.proofs.Common.{◌↔◌, ℕ, List, subst}
use Rattle.rpki_parts.specs.Algorithms.{Algorithm}
use Rattle.rpki_parts.specs.Keys.{KeyFields}
use Rattle.rpki_folder.proofs.known.KnownVerifier.verify.Goals as goal

pub returns-then-is_question : goal.returns-then-is_question
returns-then-is_question g c =
    let k = c.self.inside in
    let verifies = g.V.Verifier.verifies k.verifier.now in
    let is = c.if-is_question.true in
    let e = c.is_question.ensures in
    rw (← c.self.view_is)
    (subst (λ (s : List ℕ). IsTrue k.answer ↔ verifies c.args.key.now c.args.algorithm c.args.message.now s)
    (e.signature is)
    (subst (λ (m : List ℕ). IsTrue k.answer ↔ verifies c.args.key.now c.args.algorithm m
    k.signed.now.signature.value) (e.message is)
    (subst (λ (a : Algorithm). IsTrue k.answer ↔ verifies c.args.key.now a k.signed.now.message
    k.signed.now.signature.value) (e.algorithm is)
    (subst (λ (q : KeyFields). IsTrue k.answer ↔ verifies q k.signed.now.signature.algorithm k.signed.now.message
    k.signed.now.signature.value) (e.key is) c.self.invariant))))
