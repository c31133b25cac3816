use Rattle.std.specs.Option.{option_map}
use Rattle.std.specs.Prelude.{Option}
use Rattle.std.proofs.Common.{◌∙◌, ℕ, Bor, List, sym, ap}
use Rattle.rpki_answers.specs.TreeDocuments.{is_error}
use Rattle.rpki_answers.proofs.tree_document.counts.has_error.Goals as goal

pub returns-in-Some : goal.returns-in-Some
returns-in-Some c = c.eq.ensures ∙ ap (λ (o : Option (List ℕ)). is_error c.args.name.now o)
    (sym (ap (option_map (λ (n : Bor (List ℕ)). n.now)) c.in-Some.is) ∙ c.error.ensures)

pub returns-in-None : goal.returns-in-None
returns-in-None c = ap (λ (o : Option (List ℕ)). is_error c.args.name.now o)
    (sym (ap (option_map (λ (n : Bor (List ℕ)). n.now)) c.in-None.is) ∙ c.error.ensures)
