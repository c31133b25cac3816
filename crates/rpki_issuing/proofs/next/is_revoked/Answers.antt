use Rattle.std.proofs.Common.{map, refl, subst, sym}
use Rattle.std.proofs.lemmas.Bool.{eqb-true}
use Rattle.rpki_crl.specs.RevokedEntries.{IsRevoked}
use Rattle.rpki_crl.specs.RevokedEntries.Views.{entry_of}
use Rattle.rpki_issuing.proofs.NextEntries.{entry_at}
use Rattle.rpki_issuing.proofs.next.is_revoked.Goals as goal

pub returns-then-eq : goal.returns-then-eq
returns-then-eq c =
    let e = c.entry-item.result in
    let same = eqb-true e.user_certificate c.args.serial (sym c.if-eq.ensures) in
    let found = entry_at c.args.entries.now c.loop-entry.entry-index e c.loop-entry-test.true c.entry-item.is in
    ((λ _. subst (λ n. IsRevoked n (map entry_of c.args.entries.now)) same found), (λ _. refl))
