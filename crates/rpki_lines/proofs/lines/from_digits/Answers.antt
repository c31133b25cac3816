use Rattle.std.proofs.Common.{inl, inr}
use Rattle.rpki_lines.proofs.HexDigits.{digits_are, none_encoded}
use Rattle.rpki_lines.proofs.lines.from_digits.Goals as goal

pub returns-in-Ok-clause-encoded : goal.returns-in-Ok-clause-encoded
returns-in-Ok-clause-encoded c = digits_are c.args.digits.now c.in-Ok.octets.items c.in-Ok.ensures.ok

pub returns-in_default : goal.returns-in_default
returns-in_default c = record {
  encoded = tt;
  none = elim c.in-Err.ensures.err [
    | inl memory ↦ absurd (c.in_default.not-OutOfMemory memory)
    | inr rejected ↦ none_encoded c.args.digits.now
        c.in-Err.error rejected
  ];
}
