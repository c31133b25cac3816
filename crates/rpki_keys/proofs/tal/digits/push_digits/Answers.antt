use Rattle.std.proofs.Common.{arith, ap, ◌∙◌}
use Rattle.rpki_keys.proofs.DigitsRead.{goes_in, stays_out, taken_away}
use Rattle.rpki_keys.proofs.tal.digits.push_digits.Goals as goal
use Rattle.rpki_keys.proofs.tal.digits.push_digits.Goals.{else-not-is_ascii_whitespace-via-then-not-is_ascii_whitespace+else-is_err}
use Rattle.rpki_keys.proofs.tal.digits.push_digits.Goals.{else-not-is_ascii_whitespace-via-else-not-is_ascii_whitespace}

pub returns-then-is_err-clause-err : goal.returns-then-is_err-clause-err
returns-then-is_err-clause-err c =
    let same = rw c.if-is_err.ensures.negation at c.push.ensures.items in
    taken_away c.args.digits.now.items _ c.push.new.self.items _ c.len-before.result (omega arith)
    (same ∙ c.loop-octet.invariant) c.truncate.ensures.items

pub loop-octet-preserved : goal.loop-octet-preserved
loop-octet-preserved c =
    elim c.else-not-is_ascii_whitespace.branch [
      | else-not-is_ascii_whitespace-via-then-not-is_ascii_whitespace+else-is_err w ↦
          goes_in c.args.line.now c.args.digits.now.items c.loop-octet.digits.items _ c.loop-octet.octet-index
          c.loop-octet-test.true w.if-not-is_ascii_whitespace.ensures.value c.loop-octet.invariant
          (ap (λ v. v.items) w.digits-is ∙ rw w.if-is_err.ensures.negation at w.push.ensures.items)
      | else-not-is_ascii_whitespace-via-else-not-is_ascii_whitespace w ↦
          stays_out c.args.line.now c.args.digits.now.items c.loop-octet.digits.items _ c.loop-octet.octet-index
          c.loop-octet-test.true w.if-not-is_ascii_whitespace.ensures.value c.loop-octet.invariant
          (ap (λ v. v.items) w.digits-is)
    ]
