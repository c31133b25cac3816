use Rattle.std.proofs.Common.{take}
use Rattle.rpki_text.specs.CommandLines.{with_part}
use Rattle.rpki_text.specs.CommandLines.Views.{word_octets, fields_of}
use Rattle.rpki_text.proofs.CommandParts.{line_grammar}
use Rattle.rpki_text.proofs.WordByWord.{AreAdded}
use Rattle.rpki_text.proofs.command_line.words.add_words.Given as goal

abbrev pub invariant-loop-word : goal.invariant-loop-word
invariant-loop-word l =
    AreAdded line_grammar with_part (word_octets (take l.word-index l.words)) (fields_of l.fn.request) (fields_of l.request) l.awaiting
