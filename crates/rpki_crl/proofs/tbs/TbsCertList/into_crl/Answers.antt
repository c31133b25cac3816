use Rattle.std.proofs.Common.{inl, refl}
use Rattle.rpki_crl.specs.ListMaking.{AreGiven}
use Rattle.rpki_crl.proofs.GivenEntries.{entries_kept}
use Rattle.rpki_crl.proofs.tbs.TbsCertList.into_crl.Goals as goal

pub returns-in-Ok-clause-entries : goal.returns-in-Ok-clause-entries
returns-in-Ok-clause-entries g c =
    entries_kept (AreGiven g.C.IntoIterator.into_iter_gives g.C.IntoIter.Iterator.next_gives c.args.self.revoked)
    c.in-Ok.list c.signed_by.result c.signed_by.ensures.fields c.in-Ok.ensures.entries

pub returns-in-Err-clause-rejected : goal.returns-in-Err-clause-rejected
returns-in-Err-clause-rejected g c = inl refl
