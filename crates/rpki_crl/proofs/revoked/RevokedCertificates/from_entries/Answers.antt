use Rattle.std.proofs.Common.{◌≡◌, ◌+◌, ◌++◌, [], ◌∷◌, List, map, take, ap, sym, subst, ◌∙◌, arith, rules}
use Rattle.std.specs.List.{AllByRecursion}
use Rattle.rpki_crl.specs.RevokedEntries.{Entry, FitsEntry, entries}
use Rattle.rpki_crl.specs.RevokedEntries.Views.{entry_of}
use Rattle.rpki_crl.proofs.EntryWritten.{all_more, entries_more, sequence_has, sequence_passes}
use Rattle.rpki_crl.proofs.Loops.{taken_all, taken_more}
use Rattle.rpki_crl.proofs.revoked.RevokedCertificates.from_entries.Goals as goal

pub loop-entry-preserved : goal.loop-entry-preserved
loop-entry-preserved c =
    let elements = c.args.elements.now in
    let i = c.loop-entry.entry-index in
    let done : List Entry = map entry_of (take i elements) in
    let e = entry_of c.entry-item.result in
    let more : map entry_of (take (i + 1) elements) ≡ done ++ e ∷ [] =
    taken_more entry_of elements i (i + 1) c.entry-item.result (omega arith) c.loop-entry-test.true
    c.entry-item.is in
    record {
      written = c.in_ok-encode.ensures.ok ∙ rw c.loop-entry.invariant.written (sym (entries_more done e)) ∙ ap entries (sym more);
      fit = subst (AllByRecursion FitsEntry) (sym more) (all_more done e c.loop-entry.invariant.fit c.in_ok-encode.ensures.fits);
    }

pub invariant_of-result : goal.invariant_of-result
invariant_of-result c =
    let all = ap (map entry_of) (taken_all c.args.elements.now c.loop-entry.entry-index c.loop-entry-test.false) in
    let fit = subst (AllByRecursion FitsEntry) all c.loop-entry.invariant.fit in
    let octets : c.from.result ≡ entries (map entry_of (take c.loop-entry.entry-index c.args.elements.now)) = search rules in
    rw (octets, all) (sequence_passes (map entry_of c.args.elements.now) fit)

pub returns-clause-entries : goal.returns-clause-entries
returns-clause-entries c =
    let all = ap (map entry_of) (taken_all c.args.elements.now c.loop-entry.entry-index c.loop-entry-test.false) in
    let fit = subst (AllByRecursion FitsEntry) all c.loop-entry.invariant.fit in
    let octets : c.from.result ≡ entries (map entry_of (take c.loop-entry.entry-index c.args.elements.now)) = search rules in
    rw (octets, all) (sequence_has (map entry_of c.args.elements.now) fit)
