use Rattle.std.proofs.Common.{ℕ, map, subst, sym}
use Rattle.rpki_c.specs.WantedAnswers.{AnswersValue}
use Rattle.rpki_c.specs.WantedQuestions.{AreResourcesGiven}
use Rattle.rpki_c.proofs.values.resources_of.Goals as goal

pub returns-in-2 : goal.returns-in-2
returns-in-2 g c = λ w.
    let bs = map g.T.Ranges.span c.args.ranges.now in
    subst (λ (n : ℕ). AnswersValue w (AreResourcesGiven n bs) c.listed_of.result) (sym c.in-2.is)
    (c.listed_of.ensures w)
