use Rattle.std.proofs.Common.{ℕ, ap, sym, subst, length, arith}
use Rattle.std.specs.Prelude.{IsTrue, ◌↔◌}
use Rattle.rpki_crl.specs.Lists.{CrlState}
use Rattle.rpki_crl.specs.RevokedEntries.{IsRevoked}
use Rattle.rpki_crl.specs.SerialSearches.{IsSearch, IsTableSearch}
use Rattle.rpki_crl.specs.SerialTables.{digits}
use Rattle.rpki_crl.proofs.SerialCaches.{found_in_table, few_in_table, search_in_table}
use Rattle.rpki_crl.proofs.crl.Crl.contains_counted.Goals as goal

pub returns-in-Some-clause-revoked : goal.returns-in-Some-clause-revoked
returns-in-Some-clause-revoked c =
    subst (λ (s : CrlState). IsTrue c.contains-found.result.0 ↔ IsRevoked c.args.serial s.list.fields.revoked.entries) c.self.view_is
    (found_in_table c.self.inside.list.revoked.entries c.self.inside.cache c.in-Some.table c.self.invariant
    c.in-Some.is c.args.serial c.contains-found.result.0 c.contains-found.ensures.found)

pub returns-in-Some-clause-searched : goal.returns-in-Some-clause-searched
returns-in-Some-clause-searched c = λ cached.
    let few = few_in_table c.self.inside.list.revoked.entries c.self.inside.cache c.in-Some.table c.self.invariant
    c.in-Some.is c.contains-found.result.1 c.contains-found.ensures.few in
    let same = ap (λ (s : CrlState). digits (length s.list.fields.revoked.entries)) c.self.view_is in
    omega (arith, few, same, c.get.ensures)

pub returns-in-Some-clause-halved : goal.returns-in-Some-clause-halved
returns-in-Some-clause-halved c = λ cached.
    let counted = subst (λ (looks : ℕ). IsSearch c.in-Some.table c.args.serial looks) (sym c.get.ensures)
    c.contains-found.ensures.searched in
    let search = search_in_table c.self.inside.list.revoked.entries c.self.inside.cache c.in-Some.table
    c.self.invariant c.in-Some.is c.args.serial c.get.result c.contains-found.ensures.ascending counted in
    subst (λ (s : CrlState). IsTableSearch s.list.fields.revoked.entries c.args.serial c.get.result) c.self.view_is search
