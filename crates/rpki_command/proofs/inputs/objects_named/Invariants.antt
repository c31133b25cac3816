use Rattle.std.proofs.Common.{map, take}
use Rattle.rpki_files.specs.Files.{contents}
use Rattle.rpki_command.specs.RequestRuns.{AreObjectsNamed}
use Rattle.rpki_command.proofs.inputs.objects_named.Given as goal

-- the files so far are read
abbrev pub invariant-loop-name : goal.invariant-loop-name
invariant-loop-name g l = AreObjectsNamed (g.F.FileSource.reads l.files)
    (map (λ name. name.now) (take l.name-index l.names)) (contents l.all.items)
