use Rattle.std.proofs.Common.{◌≡◌, ◌<◌, ◌%◌, ◌^◌, ℕ, length, sym, ◌∙◌, arith}
use Rattle.std.proofs.lemmas.Nat.{one_shl}
use Rattle.rpki_der.proofs.PrimitiveReads.{last_octet}
use Rattle.rpki_vectors.proofs.writing.some_bits.Goals as goal

pub put_bits-answer-requires-clause-zero_bits : goal.put_bits-answer-requires-clause-zero_bits
put_bits-answer-requires-clause-zero_bits c =
    let unused = c.args.unused in
    let octets = c.args.content.now in
    let few : c.args.unused < 8 = c.if-unused-lt8.true in
    let some_octet : 0 < length octets = omega arith in
    last_octet unused octets few some_octet ∙ rw (sym (one_shl unused 8 few)) c.if-last-unused-eq0.true
