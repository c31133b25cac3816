use Rattle.rpki_lines.proofs.printing.V6Ends.end.Goals as goal

pub returns : goal.returns
returns c = rw (c.to_be_bytes.ensures, c.to_bits.ensures) at c.encode.ensures
