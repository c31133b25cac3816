use Rattle.std.proofs.Common.{◌++◌, ◌/◌, ◌%◌, subst, sym}
use Rattle.rpki_der.specs.Encoding.{Begins, Means}
use Rattle.rpki_der.specs.Place.{Place, remaining}
use Rattle.rpki_der.specs.Tags.{GENERALIZED_TIME}
use Rattle.rpki_der.specs.Times.{after_year, two}
use Rattle.rpki_der.specs.Values.{IsEnc}
use Rattle.rpki_files.proofs.NumberedTimes.{content_of, none_generalized}
use Rattle.rpki_files.proofs.digits.generalized.Goals as goal

pub returns-in-Ok-clause-none : goal.returns-in-Ok-clause-none
returns-in-Ok-clause-none c =
    let content = remaining c.in-Ok.content in
    let means = subst (λ (p : Place). Means (IsEnc GENERALIZED_TIME) content (remaining p)) c.fork-ahead.ensures.same
    (_, c.in-Ok.ensures.answers.encoded) in
    none_generalized content (remaining c.args.at.now) c.of_generalized.result means
    (rw c.rest.ensures.remaining at c.of_generalized.ensures.none)

pub returns-in-Err-clause-none : goal.returns-in-Err-clause-none
returns-in-Err-clause-none c = λ m year digits there.
    let means = content_of m (remaining c.args.at.now) there in
    c.in-Err.ensures.answers.encoded.1 _ means.0
    (subst (λ (p : Place). Begins (IsEnc GENERALIZED_TIME) (remaining p)
    (two (m.year / 100) ++ (two (m.year % 100) ++ after_year m)) means.0) (sym c.fork-ahead.ensures.same)
    means.1)
