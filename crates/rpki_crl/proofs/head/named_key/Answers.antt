use Rattle.std.proofs.Common.{rules, ◌≡◌, ℕ, List, [], Err, refl, subst}
use Rattle.rpki_der.specs.Encoding.{Begins}
use Rattle.rpki_der.specs.Place.{remaining}
use Rattle.rpki_der.specs.Tags.{SEQUENCE}
use Rattle.rpki_der.specs.Values.{IsEnc}
use Rattle.rpki_der.proofs.Answering.{certainly, rejects}
use Rattle.rpki_crl.proofs.NamedKeys.{more_behind, no_head, no_sequence, whole_sequence}
use Rattle.rpki_crl.proofs.head.named_key.Goals as goal

pub returns-in_err-content : goal.returns-in_err-content
returns-in_err-content c =
    let octets = c.args.octets.now in
    let e = c.in_err-content.field-0.0 in
    let same : c.from_residual.result ≡ Err e = search rules in
    let none = subst (λ (o : List ℕ). (content rest : List ℕ) → Begins (IsEnc SEQUENCE) o content rest → ⊥)
    c.new-cursor.ensures.all c.in_err-content.ensures.answers.encoded.1 in
    rw same (certainly e (λ key names. no_sequence octets key names none))

pub returns-in_err-finish : goal.returns-in_err-finish
returns-in_err-finish c =
    let octets = c.args.octets.now in
    let e = c.in_err-finish.field-0.0 in
    let same : c.from_residual-in_err-finish.result ≡ Err e = search rules in
    let content = remaining c.in_ok-content.content in
    let rest = remaining c.take_sequence.new.self in
    let begins = subst (λ (o : List ℕ). Begins (IsEnc SEQUENCE) o content rest) c.new-cursor.ensures.all
    c.in_ok-content.ensures.answers.encoded in
    let some : rest ≡ [] → ⊥ = λ end. absurd (cc (c.in_err-finish.ensures.end.1 end)) in
    rw same (certainly e (λ key names. more_behind octets key names content rest begins some))

pub returns-in_err-head : goal.returns-in_err-head
returns-in_err-head c =
    let octets = c.args.octets.now in
    let e = c.in_err-head.field-0.0 in
    let same : c.from_residual-in_err-head.result ≡ Err e = search rules in
    let content = remaining c.in_ok-content.content in
    let rest = remaining c.take_sequence.new.self in
    let begins = subst (λ (o : List ℕ). Begins (IsEnc SEQUENCE) o content rest) c.new-cursor.ensures.all
    c.in_ok-content.ensures.answers.encoded in
    let enc = whole_sequence octets content rest begins (c.in_ok-finish.ensures.end.0 refl) in
    rw same (rejects e (λ none key names. no_head octets key names content enc none) c.in_err-head.ensures.encoded)
