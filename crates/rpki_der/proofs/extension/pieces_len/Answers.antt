use Rattle.std.proofs.Common.{arith}
use Rattle.rpki_der.specs.Values.{enc}
use Rattle.rpki_der.specs.Tags.{OBJECT_IDENTIFIER, OCTET_STRING}
use Rattle.rpki_der.proofs.Appending.{length-enc, length-pieces}
use Rattle.rpki_der.proofs.ValueWritten.{enc_longer}
use Rattle.rpki_der.proofs.extension.pieces_len.Goals as goal
use Rattle.rpki_der.proofs.extension.pieces_len.Goals.{then-id-gt-MAX_LEN-via-then-id-gt-MAX_LEN}
use Rattle.rpki_der.proofs.extension.pieces_len.Goals.{then-id-gt-MAX_LEN-via-else-id-gt-MAX_LEN+then-content-gt-MAX_LEN}

pub returns-then-id-gt-MAX_LEN : goal.returns-then-id-gt-MAX_LEN
returns-then-id-gt-MAX_LEN c =
    let id = c.args.id.now in
    let content = c.args.content.now in
    let longer = length-pieces (enc OBJECT_IDENTIFIER id) c.args.flag.now (enc OCTET_STRING content) in
    elim c.then-id-gt-MAX_LEN.branch [
      | then-id-gt-MAX_LEN-via-then-id-gt-MAX_LEN w ↦ omega (arith, longer, enc_longer OBJECT_IDENTIFIER id)
      | then-id-gt-MAX_LEN-via-else-id-gt-MAX_LEN+then-content-gt-MAX_LEN w ↦ omega (arith, longer, enc_longer OCTET_STRING content)
    ]

pub returns-then-len-gt-MAX_LEN : goal.returns-then-len-gt-MAX_LEN
returns-then-len-gt-MAX_LEN c =
    omega (
      arith,
      length-pieces (enc OBJECT_IDENTIFIER c.args.id.now) c.args.flag.now
          (enc OCTET_STRING c.args.content.now),
      length-enc OBJECT_IDENTIFIER c.args.id.now,
      length-enc OCTET_STRING c.args.content.now,
    )

pub returns : goal.returns
returns c = omega (
  arith,
  length-pieces (enc OBJECT_IDENTIFIER c.args.id.now) c.args.flag.now
      (enc OCTET_STRING c.args.content.now),
  length-enc OBJECT_IDENTIFIER c.args.id.now,
  length-enc OCTET_STRING c.args.content.now,
)
