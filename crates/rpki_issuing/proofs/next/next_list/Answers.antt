use Rattle.std.specs.List.{AllByRecursion}
use Rattle.std.proofs.Common.{rules, ◌≡◌, ◌∙◌, List, map, subst}
use Rattle.rpki_crl.specs.Lists.{ListFields}
use Rattle.rpki_crl.specs.RevokedEntries.{Revoked}
use Rattle.rpki_crl.specs.RevokedEntries.Views.{entry_of}
use Rattle.rpki_crl.specs.declared.entry.CrlEntry.{CrlEntry}
use Rattle.rpki_issuing.specs.NextLists.{HasNextEntries, NextCheck, next_checks}
use Rattle.rpki_issuing.proofs.NextEntries.{given_by, next_made}
use Rattle.rpki_issuing.proofs.next.next_list.Goals as goal

pub returns-clause-next : goal.returns-clause-next
returns-clause-next c =
    let old = c.args.previous.now.list.fields in
    let t = c.in_ok-to_revoked.field-0 in
    let entries = c.new-list.result.revoked in
    let given = c.in_ok-to_revoked.ensures.entries in
    let one : c.in_ok-entries.entries.items ≡ entries.items = search rules in
    let has = subst (λ (es : List CrlEntry). HasNextEntries old (map entry_of c.args.revoked.now) c.args.gone.now
    (map entry_of es)) one c.in_ok-entries.ensures in
    let same = given_by given.0 entries.items given.1 t.revoked.entries given.2.0 (given.2.1 ∙ entries.ok.0) given.3
    given.4 in
    let is : t ≡ record {
      algorithm = old.algorithm;
      issuer = old.issuer;
      this_update =
          c.args.this_update;
      next_update = c.args.next_update;
      revoked = t.revoked;
      extensions =
          record { authority_key_identifier = old.extensions.authority_key_identifier; crl_number = c.args.number };
    } = search rules in
    let checks = subst (λ (f : ListFields Revoked).
    AllByRecursion (NextCheck f c.args.number c.args.this_update c.args.next_update) next_checks)
    c.as_cert_list-old.ensures c.in_ok-check.ensures in
    next_made old (map entry_of c.args.revoked.now) c.args.gone.now (map entry_of entries.items) c.args.number
    c.args.this_update c.args.next_update t is same has checks
