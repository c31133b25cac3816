use Rattle.std.specs.Prelude.{Option, Some, option_copied}
use Rattle.std.proofs.Common.{Bor, ◌∙◌, ap, refl}
use Rattle.rpki_folder.specs.declared.lines.Line.{Line}
use Rattle.rpki_verdicts.proofs.named_paths.is_accepted.Goals as goal

pub returns-in-Some-Accepted : goal.returns-in-Some-Accepted
returns-in-Some-Accepted c =
    let found = ap (λ (o : Option (Bor Line)). option_copied o) c.in-Some-Accepted.is
    ∙ ap (λ (l : Line). Some l) (rw c.in-Some-Accepted.is at c.in-Some-Accepted.field-0-is) in
    ((λ yes. (c.in-Some-Accepted.field-0-0, found)), λ h. refl)
