use Rattle.std.proofs.Common.{subst, sym}
use Rattle.rpki_der.specs.Encoding.{Begins}
use Rattle.rpki_der.specs.Extensions.{IsExtension}
use Rattle.rpki_der.specs.Place.{Place, remaining}
use Rattle.rpki_files.specs.Flaws.{extension_of}
use Rattle.rpki_files.proofs.naming.first_extension.Goals as goal

pub returns-in-Ok : goal.returns-in-Ok
returns-in-Ok c =
    let here = c.in-Ok in
    let rest = remaining c.take_extension.new.cursor in
    let x = extension_of here.identifier.now here.critical (remaining here.field-0-2) in (
      remaining here.field-0-2,
      (
        rest,
        subst (λ (p : Place). Begins IsExtension (remaining p) x rest) c.fork-rest.ensures.same
            here.ensures.answers.encoded,
      ),
    )

pub returns-in-Err : goal.returns-in-Err
returns-in-Err c = λ x means. c.in-Err.ensures.answers.encoded.1 x means.0
    (subst (λ (p : Place). Begins IsExtension (remaining p) x means.0) (sym c.fork-rest.ensures.same) means.1)
