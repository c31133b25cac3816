use Rattle.std.proofs.Common.{◌≡◌, ℕ, List, Option, Some, None, refl, rules, ◌∙◌}
use Rattle.std.proofs.lemmas.Bool.{false≢true}
use Rattle.rpki_der.specs.Place.{remaining}
use Rattle.rpki_der.specs.Reading.{inside, both, map_value}
use Rattle.rpki_der.specs.Tags.{SEQUENCE}
use Rattle.rpki_der.proofs.Readings.{not_used_up}
use Rattle.rpki_parts.specs.Keys.{KeyFields, key_algorithm_format, whole_bits_format, public_key_format}
use Rattle.rpki_parts.proofs.Enclosed.{not_begun, not_read, used_up}
use Rattle.rpki_parts.proofs.key.PublicKey.read.Goals as goal

-- what stands inside the SEQUENCE
abbrev fields : List ℕ → Option (KeyFields × List ℕ)
fields = map_value (λ x. record { format = x.0; bits = x.1 }) (both key_algorithm_format.read whole_bits_format.read)

read_is : (octets : List ℕ) → public_key_format.read octets ≡ inside SEQUENCE fields octets
unfolding public_key_format
read_is octets = refl

pub returns-in_err-content-clause-reads : goal.returns-in_err-content-clause-reads
returns-in_err-content-clause-reads c =
    let now = remaining c.args.cursor.now in
    let none : public_key_format.read now ≡ None = read_is now ∙ not_begun SEQUENCE fields c.fork-ahead.ensures.same
    c.in_err-content.ensures.answers.reads.1 in
    search rules

pub returns-in_err-format-clause-reads : goal.returns-in_err-format-clause-reads
returns-in_err-format-clause-reads c =
    let now = remaining c.args.cursor.now in
    let content = remaining c.in_ok-content.content in
    let one : fields content ≡ None = rw c.in_err-format.ensures.reads.1 refl in
    let none : public_key_format.read now ≡ None = read_is now ∙ not_read SEQUENCE fields c.fork-ahead.ensures.same
    c.in_ok-content.ensures.answers.reads one in
    search rules

pub returns-in_err-bits-clause-reads : goal.returns-in_err-bits-clause-reads
returns-in_err-bits-clause-reads c =
    let now = remaining c.args.cursor.now in
    let content = remaining c.in_ok-content.content in
    let two : fields content ≡ None = rw (c.in_ok-format.ensures.reads, c.in_err-bits.ensures.reads.1) refl in
    let none : public_key_format.read now ≡ None = read_is now ∙ not_read SEQUENCE fields c.fork-ahead.ensures.same
    c.in_ok-content.ensures.answers.reads two in
    search rules

pub returns-in_err-finish-clause-reads : goal.returns-in_err-finish-clause-reads
returns-in_err-finish-clause-reads c =
    let now = remaining c.args.cursor.now in
    let content = remaining c.in_ok-content.content in
    let k : KeyFields = record { format = c.in_ok-format.format; bits = remaining c.in_ok-bits.bits } in
    let both : fields content ≡ Some (k, remaining c.take_whole_bits.new.cursor) =
    rw (c.in_ok-format.ensures.reads, c.in_ok-bits.ensures.reads) refl in
    let none : public_key_format.read now ≡ None = read_is now ∙ not_used_up SEQUENCE fields c.fork-ahead.ensures.same
    c.in_ok-content.ensures.answers.reads both (λ nil. false≢true (c.in_err-finish.ensures.end.1 nil)) in
    search rules

pub returns-clause-reads : goal.returns-clause-reads
returns-clause-reads c =
    let now = remaining c.args.cursor.now in
    let content = remaining c.in_ok-content.content in
    let k : KeyFields = record { format = c.in_ok-format.format; bits = c.in_ok-bits-2.bits } in
    let both : fields content ≡ Some (k, remaining c.take_whole_bits.new.cursor) =
    rw (c.in_ok-bits-2.ensures.ok.0, c.in_ok-format.ensures.reads, c.in_ok-bits.ensures.reads) refl in
    read_is now ∙ used_up SEQUENCE fields c.fork-ahead.ensures.same c.in_ok-content.ensures.answers.reads both
    (c.in_ok-finish.ensures.end.0 refl)
