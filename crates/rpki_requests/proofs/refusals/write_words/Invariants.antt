use Rattle.std.specs.List.{flat_map}
use Rattle.std.proofs.Common.{map, take}
use Rattle.std.specs.Fmt.{HasWritten, IsPlainFormatter}
use Rattle.rpki_requests.specs.Refusals.{spaced}
use Rattle.rpki_requests.proofs.refusals.write_words.Given as goal

abbrev pub invariant-loop-word : goal.invariant-loop-word
invariant-loop-word g l =
    IsPlainFormatter l.initial.f →
    HasWritten g.W.Write.write_str_gives l.initial.f
    (flat_map spaced (map (λ word. word.now) (take l.word-index l.words))) l.f
