use Rattle.std.specs.Prelude.{IfSome}
use Rattle.std.proofs.Common.{◌≡◌, ◌<◌, ℕ, List, length, sym, subst, arith}
use Rattle.rpki_command.proofs.WholeSources.{whole_read}
use Rattle.rpki_command.proofs.files.all_octets.Goals as goal

pub returns-else-len-most-clause-whole : goal.returns-else-len-most-clause-whole
returns-else-len-most-clause-whole g c =
    let buf = c.read_to_end-read.new.buf in
    let bytes = c.in-Ok-read.ensures.bytes in
    let short : length buf.items < c.take-bounded.result.limit =
    omega (
      arith,
      buf.small,
      buf.ok.0,
      buf.ok.1,
      c.take-bounded.ensures.limit,
      c.saturating_add.ensures,
      c.len.ensures,
      c.if-len-most.false,
    ) in
    subst (λ (l : List ℕ). IfSome (g.R.Read.remaining c.args.source) (λ all. l ≡ all)) (sym c.shrink_to_fit.ensures.items)
    (whole_read _ c.take-bounded.result.limit _ buf.items (rw c.take-bounded.ensures.inner at bytes) c.in-Ok.ensures.items short)
