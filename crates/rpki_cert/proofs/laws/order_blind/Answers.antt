use Rattle.rpki_cert.proofs.Permutations.{counts_of}
use Rattle.rpki_cert.proofs.RearrangedCertificates.{still_certificate, was_certificate}
use Rattle.rpki_cert.proofs.laws.order_blind.Goals as goal

pub returns-clause-same : goal.returns-clause-same
returns-clause-same c = λ a b f s r. (still_certificate a b r f s, was_certificate a b r f s)

pub returns-clause-orders : goal.returns-clause-orders
returns-clause-orders c before old further new behind a b old_is new_is extensions_are passed permuted = record {
  before = before;
  old = old;
  new = new;
  behind = behind;
  old_is = old_is;
  new_is = new_is;
  extensions_are = extensions_are;
  counts = counts_of old further new passed permuted;
}
