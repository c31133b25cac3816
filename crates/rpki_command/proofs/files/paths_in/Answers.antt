use Rattle.std.proofs.Common.{◌≡◌, ◌∙◌}
use Rattle.rpki_command.specs.ListedFolders.{slashed}
use Rattle.rpki_command.proofs.files.paths_in.Goals as goal

pub loop-name-preserved : goal.loop-name-preserved
loop-name-preserved c =
    let same : c.as_str-in-loop-name.result.now ≡ slashed c.args.name.now = c.as_str-in-loop-name.ensures.value ∙ c.in_ok-folder.ensures in
    (rw same at c.in_ok-push_path.ensures) c.loop-name.invariant
