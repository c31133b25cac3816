use Rattle.std.specs.List.{count_by, filter}
use Rattle.std.proofs.Common.{◌≡◌, ◌++◌}
use Rattle.rpki_text.specs.CommandLines.Views.{word_octets}
use Rattle.rpki_command.specs.ListedFolders.{is_passed, is_taken, told_count}
use Rattle.rpki_command.proofs.folders.push_taken.Given as goal

abbrev pub invariant-loop-name : goal.invariant-loop-name
invariant-loop-name l = record {
  taken : word_octets l.all.items ≡ word_octets l.initial.all.items ++ filter is_taken (word_octets l.yielded);
  count : l.passed ≡ told_count (count_by is_passed (word_octets l.yielded));
}
