use Rattle.rpki_crl.proofs.EntrySequences.{kept_entries}
use Rattle.rpki_crl.proofs.revoked.RevokedCertificates.iter.Goals as goal

pub returns-clause-entries : goal.returns-clause-entries
returns-clause-entries c = kept_entries c.self.inside.octets c.args.self.now c.self.view_is c.self.invariant c.cursor.ensures.octets
