use Rattle.std.specs.Io.KnownBytes.{Appends}
use Rattle.std.proofs.Common.{◌≡◌, ◌+◌, List, ℕ}
use Rattle.rpki_text.specs.CommandLines.Views.{word_octets}
use Rattle.rpki_command.specs.ListedFolders.{AreDown, told_count}
use Rattle.rpki_command.proofs.folders.opened_down.Given as goal

abbrev pub invariant-loop-level : goal.invariant-loop-level
invariant-loop-level g l =
    (passed : ℕ) × (said : List ℕ)
    × AreDown (g.F.FileSource.lists l.files) l._level (word_octets l.fn.names.all.items) (word_octets l.opened.all.items) passed said
    × (l.opened.passed ≡ told_count (l.fn.names.passed + passed))
    × Appends (g.E.Write.contents l.initial.err) (g.E.Write.contents l.err) said
