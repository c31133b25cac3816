use Rattle.std.proofs.Common.{rules, ◌≡◌, ◌+◌, [], ◌∷◌, ◌++◌, List, map, take, ap, subst, sym, ◌∙◌, arith}
use Rattle.std.proofs.lemmas.List.{map-append}
use Rattle.rpki_crl.specs.RevokedEntries.{Entry, IsRevoked}
use Rattle.rpki_crl.specs.RevokedEntries.Views.{entry_of}
use Rattle.rpki_crl.specs.declared.entry.CrlEntry.{CrlEntry}
use Rattle.rpki_crl.proofs.Loops.{taken_more}
use Rattle.rpki_issuing.specs.NextLists.{HasNextEntries}
use Rattle.rpki_issuing.proofs.NextEntries.{kept_alone, one_passed, one_more}
use Rattle.rpki_issuing.proofs.next.next_entries.Goals as goal
use Rattle.rpki_issuing.proofs.next.next_entries.Goals.{then-not-is_revoked+in_ok-push, else-not-is_revoked}

pub loop-entry-init : goal.loop-entry-init
loop-entry-init c = kept_alone c.args.previous.now.list.fields c.args.gone.now
    (map entry_of c.in_ok-entries.entries.items) c.in_ok-entries.ensures

pub loop-entry-preserved : goal.loop-entry-preserved
loop-entry-preserved c =
    let old = c.args.previous.now.list.fields in
    let gone = c.args.gone.now in
    let revoked = c.args.revoked.now in
    let i = c.loop-entry.entry-index in
    let item = c.entry-item.result in
    let added : List Entry = map entry_of (take i revoked) in
    let items : List CrlEntry = c.loop-entry.entries.items in
    let es : List Entry = map entry_of items in
    let more : map entry_of (take (i + 1) revoked) ≡ added ++ entry_of item ∷ [] =
    taken_more entry_of revoked i (i + 1) item (omega arith) c.loop-entry-test.true c.entry-item.is in
    subst (λ (now : List Entry). HasNextEntries old now gone (map entry_of c.if-not-is_revoked.entries.items))
    (sym more)
    (elim c.if-not-is_revoked.branch [
      | then-not-is_revoked+in_ok-push w ↦
          let pushed : c.if-not-is_revoked.entries.items ≡ items ++ item ∷ [] = search rules in
          let all : map entry_of c.if-not-is_revoked.entries.items ≡ es ++ entry_of item ∷ [] =
          ap (map entry_of) pushed ∙ map-append entry_of items (item ∷ []) in
          subst (λ (fs : List Entry). HasNextEntries old (added ++ entry_of item ∷ []) gone fs) (sym all)
          (one_more old gone added es (entry_of item) c.loop-entry.invariant)
      | else-not-is_revoked w ↦
          let same : c.if-not-is_revoked.entries.items ≡ items = search rules in
          let on : IsRevoked item.user_certificate es = search rules in
          subst (λ (xs : List CrlEntry). HasNextEntries old (added ++ entry_of item ∷ []) gone (map entry_of xs))
          (sym same) (one_passed old gone added es (entry_of item) c.loop-entry.invariant on)
    ])
