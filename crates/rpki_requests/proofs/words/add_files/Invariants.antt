use Rattle.std.specs.Prelude.{fold, map}
use Rattle.std.proofs.Common.{◌≡◌, take}
use Rattle.rpki_text.specs.CommandLines.Views.{word_octets}
use Rattle.rpki_requests.specs.RequestWords.{file, with_request_part}
use Rattle.rpki_requests.specs.RequestWords.Views.{asked_fields}
use Rattle.rpki_requests.proofs.words.add_files.Given as goal

abbrev pub invariant-loop-word : goal.invariant-loop-word
invariant-loop-word l = asked_fields l.asked ≡ fold with_request_part (asked_fields l.fn.asked)
    (map file (word_octets (take l.word-index l.words)))
