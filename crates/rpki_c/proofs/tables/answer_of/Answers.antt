use Rattle.std.proofs.Common.{◌∙◌, inl, inr, refl, sym}
use Rattle.std.proofs.lemmas.Bool.{false≢true}
use Rattle.rpki_c.proofs.tables.answer_of.Goals as goal

pub returns-then-has-clause-told : goal.returns-then-has-clause-told
returns-then-has-clause-told c = λ entries is. inl ((c.has.ensures entries is).0 c.if-has.true, refl)

pub returns-else-has-clause-told : goal.returns-else-has-clause-told
returns-else-has-clause-told c = λ entries is.
    inr ((λ some. false≢true (sym c.if-has.false ∙ (c.has.ensures entries is).1 some)), refl)
