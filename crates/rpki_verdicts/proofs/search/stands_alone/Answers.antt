use Rattle.std.proofs.Common.{inl, inr, sym, ◌∙◌}
use Rattle.std.proofs.lemmas.Bool.{false≢true}
use Rattle.rpki_verdicts.proofs.SearchSteps.{no_list_here}
use Rattle.rpki_verdicts.proofs.search.stands_alone.Goals as goal

pub returns-then-not-is_certificate-clause-alone : goal.returns-then-not-is_certificate-clause-alone
returns-then-not-is_certificate-clause-alone c = λ yes.
    inr (inl (λ begins. false≢true (sym c.if-not-is_certificate.true ∙ c.is_certificate.ensures.1 begins)))

pub returns-clause-alone : goal.returns-clause-alone
returns-clause-alone c = λ yes. inr (inr (c.has_list.ensures (no_list_here c.has_list.result yes)))
