use Rattle.std.proofs.Common.{◌≡◌, [], refl, ◌∙◌}
use Rattle.rpki_der.specs.Folding.{pass}
use Rattle.rpki_der.proofs.SequenceWalks.{over_end}
use Rattle.rpki_crl.specs.RevokedEntries.{entry_format, entries_pass}
use Rattle.rpki_crl.proofs.EntrySequences.{all_read}
use Rattle.rpki_crl.proofs.revoked.RevokedCertificates.none.Goals as goal

pub invariant_of-result : goal.invariant_of-result
unfolding entries_pass
invariant_of-result c = let e : c.from.result ≡ [] = c.from.ensures ∙ c.new.ensures in rw e (over_end entry_format.read pass tt)

pub returns : goal.returns
returns c = let e : c.from.result ≡ [] = c.from.ensures ∙ c.new.ensures in rw (e, all_read) refl
