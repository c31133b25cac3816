-- A list that is made has the entries that were given.
use Rattle.std.specs.Prelude.{IfOk}
use Rattle.std.proofs.Common.{◌≡◌, List, Result, Ok, Err, subst, sym}
use Rattle.rpki_crl.specs.Lists.{CrlState, ListFields}
use Rattle.rpki_crl.specs.RevokedEntries.{Entry, Revoked}

pub entries_kept : {E : Type 0} (P : List Entry → Type 0) (t : ListFields Revoked) (r : Result CrlState E) →
    IfOk r (λ c. c.list.fields ≡ t) → P t.revoked.entries → IfOk r (λ c. P c.list.fields.revoked.entries)
entries_kept P t (Ok c) same given = subst (λ (f : ListFields Revoked). P f.revoked.entries) (sym same) given
entries_kept P t (Err e) same given = tt
