use Rattle.std.proofs.Common.{◌≡◌, take}
use Rattle.rpki_text.specs.CommandLines.{with_files}
use Rattle.rpki_text.specs.CommandLines.Views.{word_octets, fields_of}
use Rattle.rpki_text.proofs.command_line.words.add_files.Given as goal

abbrev pub invariant-loop-word : goal.invariant-loop-word
invariant-loop-word l = fields_of l.request ≡ with_files (fields_of l.fn.request) (word_octets (take l.word-index l.words))
