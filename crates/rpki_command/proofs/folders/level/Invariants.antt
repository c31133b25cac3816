use Rattle.std.specs.Io.KnownBytes.{Appends}
use Rattle.std.proofs.Common.{◌≡◌, ◌||◌, ◌+◌, List, ℕ}
use Rattle.rpki_text.specs.CommandLines.Views.{word_octets}
use Rattle.rpki_command.specs.ListedFolders.{AreOpened, is_folder_name, told_count}
use Rattle.rpki_command.proofs.folders.level.Given as goal

abbrev pub invariant-loop-name : goal.invariant-loop-name
invariant-loop-name g l =
    (passed : ℕ) × (said : List ℕ)
    × AreOpened (g.F.FileSource.lists l.files) (λ name. l.is_first || is_folder_name name) (word_octets l.yielded)
    (word_octets l.opened.items) passed said
    × (l.count ≡ told_count (l.passed + passed))
    × Appends (g.E.Write.contents l.initial.err) (g.E.Write.contents l.err) said
