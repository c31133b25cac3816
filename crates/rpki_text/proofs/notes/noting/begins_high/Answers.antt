use Rattle.std.proofs.Common.{◌<◌, ℕ, get_or, arith}
use Rattle.std.proofs.lemmas.Bool.{leb-true, le-leb}
use Rattle.rpki_der.proofs.Octets.{AreOctets-each}
use Rattle.rpki_text.proofs.LongSerials.{long_by_first}
use Rattle.rpki_text.proofs.notes.noting.begins_high.Goals as goal

pub returns : goal.returns
returns c =
    let octets = c.args.octets.now in
    let fits : (i : ℕ) → get_or octets i 0 < 256 = λ i. omega (arith, c.type_inv.octets i) in
    let by = long_by_first octets c.requires (AreOctets-each octets fits) in
    ((λ yes. by.0 (leb-true _ _ yes)), (λ long. le-leb _ _ (by.1 long)))
