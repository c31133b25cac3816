use Rattle.std.proofs.Common.{◌≤◌, List, ℕ, length, get_or, sym, ap, subst, arith}
use Rattle.std.proofs.lemmas.Bool.{false≢true}
use Rattle.rpki_der.specs.Encoding.{Begins}
use Rattle.rpki_der.specs.Place.{Place, remaining}
use Rattle.rpki_der.specs.Values.{IsEnc}
use Rattle.rpki_text.proofs.OneValues.{none_if_refused, nothing_is_none, one_if_ends}
use Rattle.rpki_text.proofs.notes.finding.is_one_value.Goals as goal

pub returns-in_default : goal.returns-in_default
returns-in_default c =
    let octets = remaining c.args.octets.now in (
      (λ yes. absurd (false≢true yes)),
      (λ v. absurd (nothing_is_none octets
          (omega (arith, c.in_default.len_below, ap length c.rest.ensures.remaining)) v)),
    )

pub returns-in-Ok : goal.returns-in-Ok
returns-in-Ok c =
    let octets = remaining c.args.octets.now in
    let ends = one_if_ends (get_or c.rest.result.now 0 0) octets (remaining c.in-Ok.field-0)
    (remaining c.take_value.new.self)
    (subst (λ (p : Place). Begins (IsEnc (get_or c.rest.result.now 0 0)) (remaining p)
    (remaining c.in-Ok.field-0) (remaining c.take_value.new.self)) c.fork-rest.ensures.same
    c.in-Ok.ensures.answers.encoded) in
    ((λ yes. ends.0 (c.is_empty.ensures.0 yes)), (λ v. c.is_empty.ensures.1 (ends.1 v)))

pub returns-in-Err : goal.returns-in-Err
returns-in-Err c =
    let octets = remaining c.args.octets.now in
    let some : 1 ≤ length octets = omega (arith, c.in-len1-up.len_at_least, ap length c.rest.ensures.remaining) in
    let first = ap (λ (b : List ℕ). get_or b 0 0) (sym c.rest.ensures.remaining) in (
      (λ yes. absurd (false≢true yes)),
      (λ v. absurd (none_if_refused (get_or c.rest.result.now 0 0) octets some first
          (subst (λ (p : Place). (content rest : List ℕ) →
          Begins (IsEnc (get_or c.rest.result.now 0 0)) (remaining p) content rest →
          ⊥) c.fork-rest.ensures.same c.in-Err.ensures.answers.encoded.1) v)),
    )
