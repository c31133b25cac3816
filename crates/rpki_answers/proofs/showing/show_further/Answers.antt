use Rattle.std.proofs.Common.{◌∙◌, ◌++◌, ℕ, List, ap, append_assoc, refl}
use Rattle.std.proofs.lemmas.Result.{on_ok_weaker}
use Rattle.rpki_document.specs.Texts.{line_feed}
use Rattle.rpki_answers.proofs.showing.show_further.Goals as goal

pub returns-clause-text : goal.returns-clause-text
returns-clause-text c =
    on_ok_weaker c.show.result (λ its. (
      line_feed ++ its.0,
      (its.0, its.1, refl),
      its.2 ∙ ap (λ (l : List ℕ). l ++ its.0) c.in_ok-push_str.ensures.bytes ∙ append_assoc _ line_feed its.0,
    )) c.show.ensures.text
