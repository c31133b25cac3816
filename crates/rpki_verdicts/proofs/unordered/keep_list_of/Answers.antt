use Rattle.rpki_verdicts.proofs.FiledFiles.{kept_of_octets}
use Rattle.rpki_verdicts.proofs.unordered.keep_list_of.Goals as goal

pub returns : goal.returns
returns c =
    let means = rw c.in-Some.is at c.in_ok-list.ensures in
    kept_of_octets c.keep_list-kept.result c.args.file.now.octets c.in-Some.list.list means c.args.folder.now
    c.keep_list-kept.new.folder c.keep_list-kept.ensures
