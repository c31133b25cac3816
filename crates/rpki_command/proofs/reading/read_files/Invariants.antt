use Rattle.std.specs.Io.KnownBytes.{Appends}
use Rattle.std.proofs.Common.{◌≡◌, List, ℕ, map, take}
use Rattle.rpki_command.specs.NamedFiles.{AreObjectsRead}
use Rattle.rpki_command.proofs.reading.read_files.Given as goal

abbrev pub invariant-loop-name : goal.invariant-loop-name
invariant-loop-name g l =
    (said : List ℕ)
    × AreObjectsRead (g.F.FileSource.reads l.files) l.most (map (λ name. name.now) (take l.name-index l.names))
    (map g.K.Kept.fields l.all.items) said
    × Appends (g.E.Write.contents l.initial.err) (g.E.Write.contents l.err) said × (l.read ≡ l.name-index)
