use Rattle.std.proofs.lemmas.Bool.{false≢true}
use Rattle.rpki_cert.specs.declared.inspect.Kind.TheVariants.{Anchor}
use Rattle.rpki_cert.specs.Profiles.{Lacks, faults}
use Rattle.rpki_cert.proofs.Checks.{first_not_all}
use Rattle.rpki_answers.proofs.details.is_anchor.Goals as goal

pub returns-in-Err : goal.returns-in-Err
returns-in-Err c =
    let none = first_not_all (Lacks Anchor c.args.strict c.in-Some.cert.now) (faults Anchor) c.in-Err.field-0 c.in-Err.ensures.fault in
    rw c.in-Some.is ((λ yes. absurd (false≢true yes)), (λ meets. absurd (none meets)))
