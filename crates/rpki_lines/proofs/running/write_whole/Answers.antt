use Rattle.std.proofs.Common.{◌++◌, take, rules}
use Rattle.rpki_lines.specs.Watching.{device}
use Rattle.rpki_lines.proofs.Octets.{appends_more, parts_more}
use Rattle.rpki_lines.proofs.running.write_whole.Goals as goal

pub loop-rest-preserved : goal.loop-rest-preserved
loop-rest-preserved g c =
    let front = c.loop-rest.invariant.front in
    let more = take c.in-Ok.n c.loop-rest.rest.now in
    record {
      front = front ++ more;
      so_far = appends_more (g.W.Write.contents (device c.args.writer.now))
          (g.W.Write.contents (device c.loop-rest.writer)) (g.W.Write.contents (device c.write.new.self)) front more
          c.loop-rest.invariant.so_far c.in-Ok.ensures.bytes;
      parts = rw c.split_at.ensures.back (parts_more c.args.octets.now front c.loop-rest.rest.now c.in-Ok.n c.loop-rest.invariant.parts);
      unfailed = search rules;
    }
