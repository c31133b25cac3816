use Rattle.std.proofs.Common.{take}
use Rattle.rpki_text.specs.CommandLines.Views.{word_octets}
use Rattle.rpki_text.proofs.WordByWord.{AreAdded}
use Rattle.rpki_requests.specs.RequestWords.{with_request_part}
use Rattle.rpki_requests.specs.RequestWords.Views.{asked_fields}
use Rattle.rpki_requests.proofs.RequestParts.{request_grammar}
use Rattle.rpki_requests.proofs.words.add_words.Given as goal

abbrev pub invariant-loop-word : goal.invariant-loop-word
invariant-loop-word l =
    AreAdded request_grammar with_request_part (word_octets (take l.word-index l.words)) (asked_fields l.fn.asked)
    (asked_fields l.asked) l.awaiting
