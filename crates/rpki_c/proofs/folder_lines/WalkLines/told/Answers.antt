use Rattle.std.proofs.Common.{refl}
use Rattle.rpki_c.specs.FolderFates.{seen}
use Rattle.rpki_c.proofs.HeldLines.{lines_more}
use Rattle.rpki_c.proofs.folder_lines.WalkLines.told.Goals as goal

pub loop-place-preserved : goal.loop-place-preserved
loop-place-preserved c =
    let l = c.loop-place in
    lines_more c.args.asks_key l.ranges c.line_at.new.ranges c.in_ok-line.ensures.grown (seen c.args.self.now)
    l.place
    (record { lines = l.lines; ranges = l.ranges }) (record { lines = c.push.new.self; ranges = c.line_at.new.ranges })
    c.in_ok-line.line refl refl c.in_ok-push.ensures.items l.invariant c.in_ok-line.ensures.line
