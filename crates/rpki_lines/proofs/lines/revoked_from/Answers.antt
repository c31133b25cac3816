use Rattle.std.proofs.Common.{◌≡◌, ℕ, ◌<◌, ◌^◌, List, sym, ap, subst, ◌∙◌}
use Rattle.std.specs.Int.Digits.{number_from_digits}
use Rattle.std.proofs.lemmas.Bool.{false≢true}
use Rattle.rpki_lines.proofs.RevokedLines.{no_words, same_words, one_value}
use Rattle.rpki_lines.proofs.lines.revoked_from.Goals as goal

pub returns-in_default-clause-none : goal.returns-in_default-clause-none
returns-in_default-clause-none c = no_words c.args.line.now c.in_default.ensures.none

pub returns-in_default-2-clause-none : goal.returns-in_default-2-clause-none
returns-in_default-2-clause-none c = λ list serial h.
    let words = same_words c.args.line.now c.in-Some.list.now c.in-Some.serial.now list serial
    c.in-Some.ensures.words.1 c.in-Some.ensures.words.0 h in
    let none = rw c.in_default-2.is at c.in_ok-octets.ensures.none in
    none h.serial_octets words.octets_are

pub returns-in_default-from_slice-clause-none : goal.returns-in_default-from_slice-clause-none
returns-in_default-from_slice-clause-none c = λ list serial h.
    let words = same_words c.args.line.now c.in-Some.list.now c.in-Some.serial.now list serial
    c.in-Some.ensures.words.1 c.in-Some.ensures.words.0 h in
    let encoded = rw c.in-Some-2.is at c.in_ok-octets.ensures.encoded in
    let same = one_value h.serial_octets c.in-Some-2.octets.items c.in-Some.serial.now words.octets_are encoded in
    let number : serial ≡ number_from_digits 256 c.deref.result.now = h.serial_is ∙
    ap (λ (octets : List ℕ). number_from_digits 256 octets) (same ∙ sym c.deref.ensures.value) in
    let small = subst (λ (n : ℕ). n < 2 ^ 160) number h.small in
    false≢true (c.in_default-from_slice.ensures.some.1 small)

pub returns-in_default-3-clause-none : goal.returns-in_default-3-clause-none
returns-in_default-3-clause-none c = λ list serial h.
    let words = same_words c.args.line.now c.in-Some.list.now c.in-Some.serial.now list serial
    c.in-Some.ensures.words.1 c.in-Some.ensures.words.0 h in
    let none = rw c.in_default-3.is at c.in_ok-octets-2.ensures.none in
    none list words.list_is
