use Rattle.std.specs.BTreeMap.{get}
use Rattle.std.specs.Cmp.Lexicographic.{slice_cmp}
use Rattle.std.specs.Ordering.{nat_cmp}
use Rattle.std.proofs.Common.{◌≤◌, length, sym, ap, arith}
use Rattle.rpki_folder.proofs.IssuersAmong.{of_all}
use Rattle.rpki_c.specs.FolderFates.{cert_status, seen}
use Rattle.rpki_c.proofs.folder_lines.WalkLines.issuers.Goals as goal

pub loop-at-init : goal.loop-at-init
loop-at-init c =
    c.new-issuers.ensures c.args.self.now.sorted.now.folder.certs (cert_status (seen c.args.self.now))

pub loop-at-preserved : goal.loop-at-preserved
loop-at-preserved c =
    c.in_ok-add.ensures c.args.self.now.sorted.now.folder.certs (cert_status (seen c.args.self.now)) c.said.ensures
    (sym c.status.ensures) c.loop-at.invariant
