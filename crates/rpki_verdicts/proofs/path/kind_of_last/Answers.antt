use Rattle.std.proofs.Common.{◌≡◌, ◌∷◌, ◌++◌, [], List, sym, ap, subst, ◌∙◌}
use Rattle.rpki_files.specs.Files.{FileFields, contents}
use Rattle.rpki_verdicts.specs.PathAnswers.Steps.{IsKindOfLast}
use Rattle.rpki_verdicts.proofs.GivenKinds.{of_last}
use Rattle.rpki_verdicts.proofs.path.kind_of_last.Goals as goal

pub returns-in-Some-split_last : goal.returns-in-Some-split_last
returns-in-Some-split_last c =
    let first = c.in-Some.field-0-0.now in
    let rest = c.in-Some-split_last.field-0-1.now in
    let end = c.in-Some-split_last.last.now in
    let is : c.args.files.now ≡ first ∷ (rest ++ end ∷ []) = c.in-Some.ensures.cases.0 ∙
    ap (λ (l : List FileFields). first ∷ l) c.in-Some-split_last.ensures.cases.0 in
    subst (λ (files : List FileFields). IsKindOfLast (contents files) c.judged_as.result) (sym is)
    (of_last first end rest c.judged_as.result c.judged_as.ensures)
