use Rattle.std.specs.Prelude.{All, IsTrue}
use Rattle.std.proofs.Common.{◌↔◌, sym, subst, ◌∙◌}
use Rattle.std.proofs.lemmas.Bool.{false≢true}
use Rattle.rpki_files.specs.Contents.{IsList}
use Rattle.rpki_files.specs.Files.{contents}
use Rattle.rpki_verdicts.specs.PathFiles.{QuestionFields}
use Rattle.rpki_answers.proofs.verdicts.find.Goals as goal

pub returns-then-are_lists : goal.returns-then-are_lists
returns-then-are_lists c =
    let says = subst (λ (f : QuestionFields). IsTrue c.are_lists-are_lists.result ↔ All IsList (contents f.lists))
    c.question.view_is c.are_lists-are_lists.ensures in
    ((c.in_default.ensures, says.0 c.if-are_lists.true), c.in_ok-verdict.ensures)

pub returns : goal.returns
returns c =
    let says = subst (λ (f : QuestionFields). IsTrue c.are_lists-are_lists.result ↔ All IsList (contents f.lists))
    c.question.view_is c.are_lists-are_lists.ensures in
    (c.in_default.ensures, λ all. false≢true (sym c.if-are_lists.false ∙ says.1 all))
