use Rattle.std.specs.Io.KnownBytes.{Appends}
use Rattle.std.specs.Prelude.{All}
use Rattle.std.proofs.Common.{List, ℕ, map, take}
use Rattle.rpki_verdicts.specs.GivenLocators.{IsRead, locator_files}
use Rattle.rpki_command.specs.NamedFiles.{AreFilesRead}
use Rattle.rpki_command.proofs.reading.read_locators.Given as goal

abbrev pub invariant-loop-name : goal.invariant-loop-name
invariant-loop-name g l =
    (said : List ℕ)
    × AreFilesRead (g.F.FileSource.reads l.files) l.most (map (λ name. name.now) (take l.name-index l.names))
    (locator_files l.all.items) said
    × Appends (g.E.Write.contents l.initial.err) (g.E.Write.contents l.err) said × All (IsRead l.strict) l.all.items
