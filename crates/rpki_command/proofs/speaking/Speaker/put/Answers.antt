use Rattle.std.proofs.Common.{◌++◌, take}
use Rattle.rpki_lines.specs.Watching.{device}
use Rattle.rpki_command.proofs.WrittenTexts.{appends_both, parts_more}
use Rattle.rpki_command.proofs.speaking.Speaker.put.Goals as goal

pub loop-rest-preserved : goal.loop-rest-preserved
loop-rest-preserved g c =
    let contents = g.W.Write.contents in
    let front = c.loop-rest.invariant.front in
    let more = take c.in-Ok.n c.loop-rest.rest.now in
    record {
      front = front ++ more;
      so_far = appends_both (contents (device c.args.self.now.watched)) (contents (device c.loop-rest.self.watched))
          (contents (device c.write.new.self)) front more c.loop-rest.invariant.so_far c.in-Ok.ensures.bytes;
      parts = rw c.split_at.ensures.back (parts_more c.args.octets.now front c.loop-rest.rest.now c.in-Ok.n c.loop-rest.invariant.parts);
    }
