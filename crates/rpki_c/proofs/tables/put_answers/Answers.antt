use Rattle.std.proofs.Common.{◌≢◌, ◌∙◌, ℕ, ◌+◌, ◌<◌, ◌≤◌, List, length, set, get_or, sym, subst, below_more, arith}
use Rattle.std.proofs.lemmas.List.{get_or-set_other, get_or-set_same, length-set}
use Rattle.rpki_crl.specs.RevokedEntries.{Entry, IsRevoked}
use Rattle.rpki_c.specs.Contents.{IsFlag, serial_in}
use Rattle.rpki_c.specs.ListTables.{IsSerialTable}
use Rattle.rpki_c.proofs.tables.put_answers.Goals as goal

pub loop-at-preserved : goal.loop-at-preserved
loop-at-preserved c =
    let l = c.loop-at in
    let one = c.answer_of.result in
    let serials = c.args.serials.now in
    let room : l.at < length l.answers = omega (arith, l.invariant.long) in
    record {
      long = length-set l.answers l.at one ∙ l.invariant.long;
      told = λ (entries : List Entry) (is : IsSerialTable entries c.args.table.now) (i : ℕ) (low : i < l.at + 1).
          let here : IsFlag (IsRevoked (serial_in serials l.at) entries) (get_or (set l.answers l.at one) l.at 0) =
          subst (λ (n : ℕ). IsFlag (IsRevoked (serial_in serials l.at) entries) n)
          (sym (get_or-set_same l.answers l.at one 0 room))
          (subst (λ (n : ℕ). IsFlag (IsRevoked n entries) one) c.serial_at.ensures
          (c.answer_of.ensures.told entries is)) in
          let earlier : (k : ℕ) → k < l.at →
          IsFlag (IsRevoked (serial_in serials k) entries) (get_or (set l.answers l.at one) k 0) = λ k less.
          let other : k ≢ l.at = omega arith in
          subst (λ (n : ℕ). IsFlag (IsRevoked (serial_in serials k) entries) n)
          (sym (get_or-set_other l.answers l.at k one 0 other)) (l.invariant.told entries is k less) in
          below_more (λ (k : ℕ). IsFlag (IsRevoked (serial_in serials k) entries)
          (get_or (set l.answers l.at one) k 0)) l.at earlier here i low;
      flags = λ (i : ℕ) (low : i < l.at + 1).
          let here : get_or (set l.answers l.at one) l.at 0 ≤ 1 = subst (λ (n : ℕ). n ≤ 1)
          (sym (get_or-set_same l.answers l.at one 0 room)) c.answer_of.ensures.flag in
          let earlier : (k : ℕ) → k < l.at → get_or (set l.answers l.at one) k 0 ≤ 1 = λ k less.
          let other : k ≢ l.at = omega arith in
          subst (λ (n : ℕ). n ≤ 1) (sym (get_or-set_other l.answers l.at k one 0 other)) (l.invariant.flags k less) in
          below_more (λ (k : ℕ). get_or (set l.answers l.at one) k 0 ≤ 1) l.at earlier here i low;
    }

pub returns-clause-told : goal.returns-clause-told
returns-clause-told c = λ entries is i low.
    c.loop-at.invariant.told entries is i (omega (arith, low, c.loop-at.invariant.long))

pub returns-clause-flags : goal.returns-clause-flags
returns-clause-flags c = λ i low. c.loop-at.invariant.flags i (omega (arith, low, c.loop-at.invariant.long))
