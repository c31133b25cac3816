use Rattle.std.proofs.Common.{◌≡◌, ◌∙◌, ◌<◌, ℕ, List, ◌∷◌, length, drop, ap, subst, arith}
use Rattle.std.proofs.lemmas.List.{length-set}
use Rattle.rpki_crl.specs.RevokedEntries.{Entry}
use Rattle.rpki_crl.specs.RevokedEntries.Views.{entry_of}
use Rattle.rpki_c.proofs.EntriesPut.{drop_next, alike_later, told_next, kept_next}
use Rattle.rpki_c.proofs.lists.put_entries.Goals as goal

-- there is no more room
pub returns-then-at-out : goal.returns-then-at-out
returns-then-at-out c = record {
  told = λ i e it low there. c.loop-it.invariant.told i e it (omega arith);
  kept = alike_later c.loop-it.out c.args.out.now c.loop-it.at (length c.args.list.now.list.fields.revoked.entries)
      (omega arith) c.loop-it.invariant.kept;
  room = c.loop-it.invariant.room;
}

pub loop-it-preserved : goal.loop-it-preserved
loop-it-preserved c =
    let l = c.loop-it in
    let entries = c.args.list.now.list.fields.revoked.entries in
    let next : drop l.at entries ≡ entry_of c.in-Some.it ∷ c.next.new.self = l.invariant.rest ∙
    c.in-Some.ensures.steps in
    let room : l.at < length l.out = omega arith in
    record {
      rest = drop_next entries l.at (entry_of c.in-Some.it) c.next.new.self next;
      count = omega (arith, ap (λ (es : List Entry). length es) c.in-Some.ensures.steps);
      fits = omega (arith, length-set l.out l.at c.entry.result);
      told = told_next entries l.out l.at (entry_of c.in-Some.it) c.next.new.self c.entry.result next room
          c.entry.ensures l.invariant.told;
      kept = kept_next c.args.out.now l.out l.at c.entry.result l.invariant.kept;
      room = length-set l.out l.at c.entry.result ∙ l.invariant.room;
    }

-- all entries are written
pub returns : goal.returns
returns c =
    let l = c.loop-it in
    let all : l.at ≡ length c.args.list.now.list.fields.revoked.entries =
    omega (arith, ap (λ (es : List Entry). length es) c.in-None.ensures.steps.0) in
    record {
      told = λ i e it low there. l.invariant.told i e it (omega arith);
      kept = subst (λ (n : ℕ). drop n l.out ≡ drop n c.args.out.now) all l.invariant.kept;
      room = l.invariant.room;
    }
