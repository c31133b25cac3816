use Rattle.std.proofs.Common.{◌≤◌, ◌++◌, take, length, arith}
use Rattle.std.proofs.lemmas.Grind.{common_steps}
use Rattle.rpki_lines.specs.Watching.{device}
use Rattle.rpki_lines.proofs.Octets.{consumes_more}
use Rattle.rpki_lines.proofs.running.read_whole.Goals as goal

pub returns-in_err-extend_from_slice-in-Ok-clause-taken : goal.returns-in_err-extend_from_slice-in-Ok-clause-taken
returns-in_err-extend_from_slice-in-Ok-clause-taken g c =
    let before = c.loop-chunk.input.items in
    let more = take c.in-Ok.n c.read.new.buf in
    let short : length (before ++ more) ≤ 0x1000001 = grind (arith, common_steps) in (
      before ++ more,
      short,
      consumes_more (g.R.Read.remaining (device c.args.reader.now))
          (g.R.Read.remaining (device c.loop-chunk.reader)) (g.R.Read.remaining (device c.read.new.self)) before more
          c.loop-chunk.invariant.so_far c.in-Ok.ensures.bytes.0,
    )
