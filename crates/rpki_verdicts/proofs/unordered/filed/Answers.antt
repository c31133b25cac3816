use Rattle.std.proofs.Common.{List, map, take, sym, subst}
use Rattle.std.proofs.lemmas.List.{take_all}
use Rattle.rpki_files.specs.Files.{FileFields}
use Rattle.rpki_path.proofs.LatestLists.{gone_over}
use Rattle.rpki_verdicts.specs.Trees.{IsFolderOf}
use Rattle.rpki_verdicts.proofs.unordered.filed.Goals as goal

pub loop-file-preserved : goal.loop-file-preserved
loop-file-preserved c =
    let files = c.args.files.now in
    let i = c.loop-file.file-index in
    let file = c.file-item.result in
    subst (λ (l : List FileFields). IsFolderOf l (map (λ f. f.now) c.add_file.new.certs.items) c.add_file.new.folder)
    (sym (gone_over files i file c.loop-file-test.true c.file-item.is))
    (c.in_ok-add_file.ensures (take i files) c.loop-file.invariant)

pub returns : goal.returns
returns c =
    let files = c.args.files.now in
    subst (λ (l : List FileFields). IsFolderOf l (map (λ f. f.now) c.loop-file.certs.items) c.loop-file.folder)
    (take_all c.loop-file.file-index files c.loop-file-test.false) c.loop-file.invariant
