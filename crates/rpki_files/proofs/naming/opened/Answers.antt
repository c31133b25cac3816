use Rattle.std.proofs.Common.{subst, sym}
use Rattle.rpki_der.specs.Encoding.{Begins}
use Rattle.rpki_der.specs.Place.{Place, remaining}
use Rattle.rpki_der.specs.Values.{IsEnc}
use Rattle.rpki_files.proofs.naming.opened.Goals as goal

pub returns-in-Ok : goal.returns-in-Ok
returns-in-Ok c =
    let inside = remaining c.in-Ok.inside in
    let rest = remaining c.take_value.new.self in (
      rest,
      subst (λ (p : Place). Begins (IsEnc c.args.identifier) (remaining p) inside rest) c.fork-ahead.ensures.same
          c.in-Ok.ensures.answers.encoded,
    )

pub returns-in-Err : goal.returns-in-Err
returns-in-Err c = λ content means. c.in-Err.ensures.answers.encoded.1 content means.0
    (subst (λ (p : Place). Begins (IsEnc c.args.identifier) (remaining p) content means.0)
    (sym c.fork-ahead.ensures.same) means.1)
