use Rattle.std.proofs.Common.{◌≡◌, true, false, rules}
use Rattle.rpki_der.specs.Values.{enc, length_octets}
use Rattle.rpki_parts.specs.Algorithms.{algorithm_format}
use Rattle.rpki_parts.proofs.algorithm.RpkiSignatureAlgorithm.x509_encode.Goals as goal

pub returns-then-self-clause-writes : goal.returns-then-self-clause-writes
unfolding algorithm_format enc length_octets
returns-then-self-clause-writes c =
    let is : c.args.self.now.has_null ≡ true = cc in
    rw is (record {
      ok = c.put_value.ensures.ok;
      err = c.put_value.ensures.err;
      fits = search rules;
      too_long =
          c.put_value.ensures.too_long.0;
    })

pub returns-else-self-clause-writes : goal.returns-else-self-clause-writes
unfolding algorithm_format enc length_octets
returns-else-self-clause-writes c =
    let is : c.args.self.now.has_null ≡ false = cc in
    rw is (record {
      ok = c.put_value-else-self.ensures.ok;
      err = c.put_value-else-self.ensures.err;
      fits =
          search rules;
      too_long = c.put_value-else-self.ensures.too_long.0;
    })
