use Rattle.std.proofs.Common.{[], sym}
use Rattle.std.proofs.lemmas.List.{append-nil}
use Rattle.rpki_command.specs.ReadFiles.{IsObjectRead}
use Rattle.rpki_command.specs.UnreadFiles.{SaysUnread}
use Rattle.rpki_command.proofs.NamedFiles.{one_told}
use Rattle.rpki_command.proofs.reading.push_file.Goals as goal

pub returns-in-None : goal.returns-in-None
returns-in-None g c =
    let reads = g.F.FileSource.reads c.args.files.now in
    let its = c.in_ok-text.ensures in
    let told = one_told (IsObjectRead reads c.args.most) (SaysUnread reads c.args.most) c.args.name.now its.0 (rw c.in-None.is at its.1) in
    ([], its.0, told, sym (append-nil c.args.all.now.items), its.2)
