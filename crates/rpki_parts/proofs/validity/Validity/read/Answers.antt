use Rattle.std.proofs.Common.{◌≡◌, ℕ, List, Option, None, refl, rules, ◌∙◌}
use Rattle.std.proofs.lemmas.Bool.{false≢true}
use Rattle.rpki_der.specs.Place.{remaining}
use Rattle.rpki_der.specs.Reading.{inside, both, map_value}
use Rattle.rpki_der.specs.Tags.{SEQUENCE}
use Rattle.rpki_der.specs.Times.Reading.{time_at}
use Rattle.rpki_der.proofs.Readings.{not_used_up}
use Rattle.rpki_parts.specs.Validities.{ValidityFields, validity_format}
use Rattle.rpki_parts.proofs.Enclosed.{not_begun, not_read, used_up}
use Rattle.rpki_parts.proofs.validity.Validity.read.Goals as goal

-- what stands inside the SEQUENCE
abbrev times : List ℕ → Option (ValidityFields × List ℕ)
times = map_value (λ x. record { not_before = x.0; not_after = x.1 }) (both time_at time_at)

read_is : (octets : List ℕ) → validity_format.read octets ≡ inside SEQUENCE times octets
unfolding validity_format
read_is octets = refl

pub returns-in_err-content-clause-reads : goal.returns-in_err-content-clause-reads
returns-in_err-content-clause-reads c =
    let now = remaining c.args.cursor.now in
    let none : validity_format.read now ≡ None = read_is now ∙ not_begun SEQUENCE times c.fork-ahead.ensures.same
    c.in_err-content.ensures.answers.reads.1 in
    search rules

pub returns-in_err-validity-clause-reads : goal.returns-in_err-validity-clause-reads
returns-in_err-validity-clause-reads c =
    let now = remaining c.args.cursor.now in
    let none : validity_format.read now ≡ None = read_is now ∙ not_read SEQUENCE times c.fork-ahead.ensures.same
    c.in_ok-content.ensures.answers.reads c.in_err-validity.ensures.1 in
    search rules

pub returns-in_err-finish-clause-reads : goal.returns-in_err-finish-clause-reads
returns-in_err-finish-clause-reads c =
    let now = remaining c.args.cursor.now in
    let none : validity_format.read now ≡ None = read_is now ∙ not_used_up SEQUENCE times c.fork-ahead.ensures.same
    c.in_ok-content.ensures.answers.reads c.in_ok-validity.ensures
    (λ nil. false≢true (c.in_err-finish.ensures.end.1 nil)) in
    search rules

pub returns-clause-reads : goal.returns-clause-reads
returns-clause-reads c =
    read_is (remaining c.args.cursor.now) ∙ used_up SEQUENCE times c.fork-ahead.ensures.same
    c.in_ok-content.ensures.answers.reads c.in_ok-validity.ensures (c.in_ok-finish.ensures.end.0 refl)
