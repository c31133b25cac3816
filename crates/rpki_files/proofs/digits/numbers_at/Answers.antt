use Rattle.std.proofs.Common.{subst, sym}
use Rattle.rpki_der.specs.Encoding.{Begins, Means}
use Rattle.rpki_der.specs.Place.{Place, remaining}
use Rattle.rpki_der.specs.Tags.{UTC_TIME}
use Rattle.rpki_der.specs.Values.{IsEnc}
use Rattle.rpki_files.proofs.NumberedTimes.{none_numbered, none_utc}
use Rattle.rpki_files.proofs.digits.numbers_at.Goals as goal

pub returns-in-Ok-clause-none : goal.returns-in-Ok-clause-none
returns-in-Ok-clause-none c =
    let content = remaining c.in-Ok.content in
    let means = subst (λ (p : Place). Means (IsEnc UTC_TIME) content (remaining p)) c.fork-ahead.ensures.same
    (_, c.in-Ok.ensures.answers.encoded) in
    none_utc content (remaining c.args.at.now) c.of_utc.result means (rw c.rest.ensures.remaining at c.of_utc.ensures.none)

pub returns-in-Err-clause-none : goal.returns-in-Err-clause-none
returns-in-Err-clause-none c =
    none_numbered (remaining c.args.at.now) c.generalized.result
    (λ content rest b. c.in-Err.ensures.answers.encoded.1 content rest
    (subst (λ (p : Place). Begins (IsEnc UTC_TIME) (remaining p) content rest) (sym c.fork-ahead.ensures.same)
    b))
    c.generalized.ensures.none
